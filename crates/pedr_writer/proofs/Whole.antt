-- The nine segments, stored one after the other, are the record.
use Prim.Native.Nat.{ℕ}
use mathlib.Core.Path.{◌≡◌, refl, sym, ap, ◌∙◌}
use mathlib.Core.List.{List, [], ◌∷◌, ◌++◌, append-nil}
use native.Mathlib.Omega.{arith}
use lib.ListN.{length}
use Rattle.octets.proofs.Store.{put_whole}
use Rattle.layout.specs.Column.{Column, column, join}
use Rattle.layout.proofs.Cover.{Fit, done, ◌▹◌, join_length, join_append}
use Rattle.layout.proofs.Store.{Puts, puts_join}
use Rattle.pedr_layout.specs.Layout.{record_columns}
use Rattle.pedr_arrays.specs.declared.RecordArrays.{RecordArrays}
use Rattle.pedr_fields.specs.declared.RecordFields.{RecordFields}
use Rattle.pedr_block.specs.declared.Block.{Block}
use Rattle.pedr_block_runs.specs.declared.BlockRuns.{BlockRuns}
use Rattle.pedr_block_writer.specs.Rows.{block_octets}
use Rattle.pedr_segments.specs.Parts.{head_parts, radii_parts, pulse_parts, ground_parts, gate_parts, receiver_parts, link_parts}
use Rattle.pedr_segments.proofs.Fits.{Sizes, sized}
use Rattle.pedr_writer.specs.Record.{tail_parts, record_parts, record_of}
use Rattle.pedr_writer.proofs.Fits.{record_fits}

abbrev pub sections : RecordFields → Block → RecordArrays → BlockRuns → List ℕ → List ℕ → List (List ℕ)
sections f b a r c x =
    join (head_parts f) ∷ join (radii_parts f a.shots) ∷ join (pulse_parts a.shots) ∷ join (ground_parts f a) ∷ join (gate_parts f a.channels)
    ∷ join (receiver_parts f) ∷ join (link_parts f a.source_header) ∷ block_octets b r c ∷ join (tail_parts a.shots.encoder x) ∷ []

abbrev pub section_columns : List Column
section_columns =
    column 0 1 32 ∷ column 32 1 112 ∷ column 144 1 180 ∷ column 324 1 100 ∷ column 424 1 56 ∷ column 480 1 12 ∷ column 492 1 16 ∷ column 508 1 28
    ∷ column 536 1 240 ∷ []

-- how many bytes the segments have
pub record SectionSizes (f : RecordFields) (b : Block) (a : RecordArrays) (r : BlockRuns) (c x : List ℕ) : Type 0 where
  pub head : length (join (head_parts f)) ≡ 32
  pub radii : length (join (radii_parts f a.shots)) ≡ 112
  pub pulses : length (join (pulse_parts a.shots)) ≡ 180
  pub ground : length (join (ground_parts f a)) ≡ 100
  pub gate : length (join (gate_parts f a.channels)) ≡ 56
  pub receiver : length (join (receiver_parts f)) ≡ 12
  pub link : length (join (link_parts f a.source_header)) ≡ 16
  pub block : length (block_octets b r c) ≡ 28
  pub tail : length (join (tail_parts a.shots.encoder x)) ≡ 240

-- parts before others, as one part
before : (ps qs rs : List (List ℕ)) → join qs ≡ join rs → join (ps ++ qs) ≡ join (join ps ∷ rs)
before ps qs rs e = join_append ps qs ∙ ap (λ (s : List ℕ). join ps ++ s) e

module _ (f : RecordFields) (b : Block) (a : RecordArrays) (r : BlockRuns) (c x : List ℕ) where
  sections_fit : SectionSizes f b a r c x → Fit (sections f b a r c x) section_columns
  sections_fit z = z.head ▹ z.radii ▹ z.pulses ▹ z.ground ▹ z.gate ▹ z.receiver ▹ z.link ▹ z.block ▹ z.tail ▹ done

  sections_join : record_of f b a r c x ≡ join (sections f b a r c x)
  unfolding record_of
  sections_join =
      let p9 = tail_parts a.shots.encoder x in
      let p8 = block_octets b r c ∷ p9 in
      let p7 = link_parts f a.source_header ++ p8 in
      let p6 = receiver_parts f ++ p7 in
      let p5 = gate_parts f a.channels ++ p6 in
      let p4 = ground_parts f a ++ p5 in
      let p3 = pulse_parts a.shots ++ p4 in
      let p2 = radii_parts f a.shots ++ p3 in
      let s8 = block_octets b r c ∷ join p9 ∷ [] in
      let s7 = join (link_parts f a.source_header) ∷ s8 in
      let s6 = join (receiver_parts f) ∷ s7 in
      let s5 = join (gate_parts f a.channels) ∷ s6 in
      let s4 = join (ground_parts f a) ∷ s5 in
      let s3 = join (pulse_parts a.shots) ∷ s4 in
      let s2 = join (radii_parts f a.shots) ∷ s3 in
      before (head_parts f) p2 s2
      (before (radii_parts f a.shots) p3 s3
      (before (pulse_parts a.shots) p4 s4
      (before (ground_parts f a) p5 s5
      (before (gate_parts f a.channels) p6 s6
      (before (receiver_parts f) p7 s7
      (before (link_parts f a.source_header) p8 s8 (ap (λ (t : List ℕ). block_octets b r c ++ t) (sym (append-nil (join p9))))))))))

  pub whole : SectionSizes f b a r c x → (out t : List ℕ) → length out ≡ 776 → Puts out (sections f b a r c x) section_columns t → t ≡ record_of f b a r c x
  whole z out t n p =
      let l = sized (sections f b a r c x) section_columns 0 776 776 refl refl (sections_fit z) in
      puts_join (sections f b a r c x) section_columns 0 776 refl (sections_fit z) p
      ∙ put_whole out (join (sections f b a r c x)) (l ∙ sym n) ∙ sym sections_join

  -- the record has 776 bytes
  pub record_length : Sizes a → length (block_octets b r c) ≡ 28 → length x ≡ 220 → length (record_of f b a r c x) ≡ 776
  unfolding record_of
  record_length z w l = omega (arith, join_length (record_parts f b a r c x) record_columns 0 776 refl (record_fits f b a r c x z w l))
