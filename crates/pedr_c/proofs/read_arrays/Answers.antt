-- Array by array, as read; the classes by their column.
use mathlib.Core.Path.{sym, ap, ◌∙◌}
use mathlib.Core.List.{map}
use Rattle.pedr_flags.specs.Class.{class_number}
use Rattle.pedr_arrays.specs.Arrays.{shot_arrays_of, arrays_of}
use Rattle.pedr_arrays.specs.declared.RecordArrays.{RecordArrays}
use Rattle.pedr_c.specs.Numbers.{array_numbers}
use Rattle.pedr_c.proofs.read_arrays.Goals as goal

pub shot_numbers-requires : goal.shot_numbers-requires
unfolding shot_arrays_of arrays_of
shot_numbers-requires c =
    let e = c.read_arrays-arrays.ensures in
    c.read_class_numbers.ensures ∙ ap (λ (a : RecordArrays). map class_number a.shots.class) (sym e)

pub returns : goal.returns
unfolding array_numbers
returns c =
    let a = c.read_arrays-arrays in
    (λ i. record {
      shots = c.shot_numbers.ensures i;
      channels = a.result.channels;
      xyz = a.result.xyz;
      source_header = a.result.source_header;
    })
    ∙ ap array_numbers a.ensures
