use mathlib.Core.Path.{refl}
use Rattle.pedr_flags.proofs.Quality.TheLaws as In-quality
use Rattle.pedr_flags.proofs.Descriptor.TheLaws as In-descriptor
use Rattle.pedr_flags.proofs.Encoder.TheLaws as In-encoder
use Rattle.pedr_flags.proofs.ShotFailures.TheLaws as In-failures
use Rattle.pedr_fields.proofs.FrameTime.TheLaws as In-time
use Rattle.pedr_fields.proofs.OrbitPosition.TheLaws as In-position
use Rattle.pedr_fields.proofs.Pointing.TheLaws as In-pointing
use Rattle.pedr_fields.proofs.Ranges.TheLaws as In-ranges
use Rattle.pedr_fields.proofs.Receiver.TheLaws as In-receiver
use Rattle.pedr_fields.proofs.PacketLink.TheLaws as In-link
use Rattle.pedr_fields.proofs.RecordFields.TheLaws as In-fields
use Rattle.pedr_block.proofs.Frame1Fields.TheLaws as In-frame-1
use Rattle.pedr_block.proofs.Frame2Fields.TheLaws as In-frame-2
use Rattle.pedr_block.proofs.Frame3Fields.TheLaws as In-frame-3
use Rattle.pedr_block.proofs.Frame5Fields.TheLaws as In-frame-5
use Rattle.pedr_block.proofs.Frame6Fields.TheLaws as In-frame-6
use Rattle.pedr_block.proofs.Frame7Fields.TheLaws as In-frame-7
use Rattle.pedr_block_runs.proofs.BlockRuns.TheLaws as In-runs
use Rattle.pedr_block_c.proofs.BlockNumbers.TheLaws as In-block
use Rattle.pedr_arrays.proofs.ChannelArrays.TheLaws as In-channels
use Rattle.pedr_c.proofs.ShotNumbers.TheLaws as In-shots
use Rattle.pedr_c.proofs.ArrayNumbers.TheLaws as In-arrays
use Rattle.pedr_c.proofs.RecordNumbers.TheLaws as In-record
use Rattle.pedr_shot_c.proofs.OneShot.TheLaws as In-shot
use Rattle.pedr_shot_c.proofs.ShotRead.TheLaws as In-read
use Rattle.mola_laws.specs.RecordLayout.{FieldLayouts, ArrayLayouts, BlockLayouts}
use Rattle.mola_laws.proofs.Lies.{lies}
use Rattle.mola_laws.proofs.record_layouts.Goals as goal

fields : FieldLayouts
fields =
    record {
      time_laid = lies In-time.lowers refl refl refl (λ s. refl);
      position_laid = lies In-position.lowers refl refl refl (λ s. refl);
      quality_laid = lies In-quality.lowers refl refl refl (λ s. refl);
      descriptor_laid = lies In-descriptor.lowers refl refl refl (λ s. refl);
      pointing_laid = lies In-pointing.lowers refl refl refl (λ s. refl);
      ranges_laid = lies In-ranges.lowers refl refl refl (λ s. refl);
      receiver_laid = lies In-receiver.lowers refl refl refl (λ s. refl);
      link_laid = lies In-link.lowers refl refl refl (λ s. refl);
      fields_laid = lies In-fields.lowers refl refl refl (λ s. refl);
    }

arrays : ArrayLayouts
arrays =
    record {
      encoder_laid = lies In-encoder.lowers refl refl refl (λ s. refl);
      failures_laid = lies In-failures.lowers refl refl refl (λ s. refl);
      shots_laid = lies In-shots.lowers refl refl refl (λ s. refl);
      channels_laid = lies In-channels.lowers refl refl refl (λ s. refl);
      arrays_laid = lies In-arrays.lowers refl refl refl (λ s. refl);
    }

block : BlockLayouts
block =
    record {
      frame_1_laid = lies In-frame-1.lowers refl refl refl (λ s. refl);
      frame_2_laid = lies In-frame-2.lowers refl refl refl (λ s. refl);
      frame_3_laid = lies In-frame-3.lowers refl refl refl (λ s. refl);
      frame_5_laid = lies In-frame-5.lowers refl refl refl (λ s. refl);
      frame_6_laid = lies In-frame-6.lowers refl refl refl (λ s. refl);
      frame_7_laid = lies In-frame-7.lowers refl refl refl (λ s. refl);
      block_laid = lies In-block.lowers refl refl refl (λ s. refl);
      runs_laid = lies In-runs.lowers refl refl refl (λ s. refl);
    }

pub returns : goal.returns
returns c =
    record {
      fields = fields;
      arrays = arrays;
      block = block;
      record_laid = lies In-record.lowers refl refl refl (λ s. refl);
      shot_laid = lies In-shot.lowers refl refl refl (λ s. refl);
      shot_read_laid = lies In-read.lowers refl refl refl (λ s. refl);
    }
