use mathlib.Core.Path.{refl}
use Rattle.packet.proofs.PacketFields.TheLaws as In-fields
use Rattle.packet.proofs.PacketArrays.TheLaws as In-arrays
use Rattle.mola.proofs.FieldsAnswer.TheLaws as In-read
use Rattle.reorder_c_answers.proofs.Answer.TheLaws as In-answer
use Rattle.reorder_c_answers.proofs.Count.TheLaws as In-count
use Rattle.mola_laws.proofs.Lies.{lies}
use Rattle.mola_laws.proofs.struct_layouts.Goals as goal

pub returns : goal.returns
returns c =
    record {
      fields_laid = lies In-fields.lowers refl refl refl (λ s. refl);
      arrays_laid = lies In-arrays.lowers refl refl refl (λ s. refl);
      read_laid = lies In-read.lowers refl refl refl (λ s. refl);
      answer_laid = lies In-answer.lowers refl refl refl (λ s. refl);
      count_laid = lies In-count.lowers refl refl refl (λ s. refl);
    }
