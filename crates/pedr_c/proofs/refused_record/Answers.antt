-- Part by part.
use Rattle.pedr_c.specs.Refused.{refused_record}
use Rattle.pedr_c.proofs.refused_record.Goals as goal

pub returns : goal.returns
unfolding refused_record
returns c =
    let r = refused_record c.args.refusal in
    λ i. record {
      refusal = r.refusal;
      fields = c.no_fields.ensures i;
      block = c.no_block.ensures i;
      arrays = c.no_arrays.ensures i;
      runs = c.no_runs.ensures i;
      carried = r.carried;
      uninterpreted = r.uninterpreted;
    }
