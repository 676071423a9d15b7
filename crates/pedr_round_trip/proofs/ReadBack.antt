-- Reading what was written: column by column.
use Prim.Native.Nat.{ℕ, zero, suc, ◌+◌, ◌*◌, ◌/◌, ◌%◌, ◌<◌, ◌≤◌}
use mathlib.Core.Path.{◌≡◌, refl, sym, ap, ap₂, ◌∙◌}
use mathlib.Core.Bool.{Bool, true, false, ◌&&◌, false≢true}
use mathlib.Core.List.{List, [], ◌∷◌, ◌++◌, map}
use native.Mathlib.Omega.{arith}
use borrow.Author.Tests.{ltb-true, ne_eqb}
use lib.IntN.{pos}
use lib.ListN.{length, get_or, length-map, get_or-map, take-append-drop}
use Rattle.numbers.proofs.Bits.{bits_set_le}
use Rattle.octets.specs.Bytes.{nat_at, part}
use Rattle.octets.specs.Table.{table, nats_at, ints_at}
use Rattle.octets.specs.Refusal.{answered}
use Rattle.octets.proofs.Codec.{octets_part, read_write}
use Rattle.octets.proofs.Each.{each_at}
use Rattle.octets.proofs.Fill.{table_below, table_self, table_at}
use Rattle.octets.proofs.Ladder.{pass_eq, say_answered, after_done}
use Rattle.layout.specs.Column.{Sign, unsigned, complement, Number, item, number_at, numbers_at, number_octets, numbers_octets, Holds, HoldsAll, cut}
use Rattle.layout.proofs.Cover.{cut_join}
use Rattle.layout.proofs.Values.{read_number, read_numbers}
use Rattle.pedr_layout.specs.Layout as columns
use Rattle.pedr_flags.specs.Quality.{good_count, quality_of}
use Rattle.pedr_flags.specs.Class.{class_of, class_number}
use Rattle.pedr_flags.specs.Encoder.{encoder_of}
use Rattle.pedr_flags.specs.declared.Class.{Class}
use Rattle.pedr_flags.specs.declared.Class.TheVariants.{NoTrigger, ProbableGround, Unassigned}
use Rattle.pedr_flags.specs.declared.Encoder.{Encoder}
use Rattle.pedr_flags_writer.specs.Encoder.{encoder_byte}
use Rattle.pedr_flags_writer.specs.Quality.{quality_bits}
use Rattle.pedr_flags_writer.proofs.Codes.{quality_parts, quality_lt, count_low, encoder_parts}
use Rattle.pedr_flags_writer.proofs.DescriptorRead.{failures_given, descriptor_given}
use Rattle.pedr_arrays.specs.Arrays.{classes_of, encoders_of, shot_arrays_of, channel_arrays_of, arrays_of, no_arrays}
use Rattle.pedr_arrays.specs.Uninterpreted.{uninterpreted_of, no_uninterpreted}
use Rattle.pedr_arrays.specs.declared.RecordArrays.{RecordArrays}
use Rattle.pedr_fields.specs.Fields.{time_of, position_of, pointing_of, ranges_of, receiver_of, link_of, fields_of}
use Rattle.pedr_fields.specs.declared.RecordFields.{RecordFields}
use Rattle.pedr_check.specs.Refusal.{values_refusal, record_refusal}
use Rattle.pedr_codes.specs.Codes.{is_proper, has_two_bits}
use Rattle.pedr_block.specs.Block.{block_of}
use Rattle.pedr_block.specs.declared.Block.{Block}
use Rattle.pedr_block_runs.specs.Runs.{runs_of, no_runs}
use Rattle.pedr_block_runs.specs.Carried.{carried_of, no_carried}
use Rattle.pedr_block_runs.specs.declared.BlockRuns.{BlockRuns}
use Rattle.pedr_block_round_trip.specs.Kept.{kept_runs, kept_carried, TypedBlock}
use Rattle.pedr_block_round_trip.proofs.ReadAs.{ReadAs}
use Rattle.pedr_block_round_trip.proofs.ReadBack.{typed_length, block_read}
use Rattle.pedr_write_check.proofs.Accept.{Proper}
use Rattle.pedr_write_refusal.specs.Refusal.{write_refusal}
use Rattle.pedr_write_refusal.proofs.Accept.{Writable, writable}
use Rattle.pedr.specs.Read.{read_due, read_arrays, read_runs, read_carried, read_uninterpreted}
use Rattle.pedr_segments.proofs.Fits.{Sizes}
use Rattle.pedr_writer.specs.Record.{record_parts, record_of}
use Rattle.pedr_writer.proofs.Fits.{record_fits}
use Rattle.pedr_writer.proofs.Whole.{record_length}
use Rattle.pedr_round_trip.specs.Typed.{TypedFields, TypedArrays}
use Rattle.pedr_round_trip.specs.RoundTrip.{counted, ReadsBack}

-- the lengths that the types give
sizes_of : (a : RecordArrays) → TypedArrays a → Sizes a
sizes_of a t =
    let s = t.shots in
    record {
      shots = record {
        radius = s.radius.0;
        energy = s.energy.0;
        reflectivity = s.reflectivity.0;
        trigger_channel = s.trigger_channel.0;
        pulse_width = s.pulse_width.0;
        optical_width = s.optical_width.0;
        laser_power = s.laser_power.0;
        class = s.class.0;
        encoder = s.encoder;
        failures = s.failures;
      };
      noise = t.noise.0;
      thresholds = t.thresholds.0;
      xyz = t.xyz.0;
      source_header = t.source_header.0;
    }

-- a class that is given by its name, if it has one, is that of its number
class_of_lem : (c : Class) → is_proper c ≡ true → class_of (class_number c) ≡ c
class_of_lem NoTrigger e = refl
class_of_lem ProbableGround e = refl
class_of_lem (Unassigned n) e =
    let l : 1 < n = ltb-true 1 n e in
    simp (ne_eqb n 0 (λ z. omega arith), ne_eqb n 1 (λ z. omega arith))

-- an encoder whose parts have two bits each is that of its byte
both : (x y : Bool) → (x && y) ≡ true → (x ≡ true) × (y ≡ true)
both true y e = (refl, e)
both false y e = absurd (false≢true e)

encoder_of_lem : (e : Encoder) → has_two_bits e ≡ true → encoder_of (encoder_byte e) ≡ e
encoder_of_lem e h =
    let b = both _ _ h in
    let l = both _ _ b.0 in
    let r = both _ _ b.1 in
    encoder_parts e (ltb-true _ _ l.0) (ltb-true _ _ l.1) (ltb-true _ _ r.0) (ltb-true _ _ r.1)

module _ (f : RecordFields) (b : Block) (a : RecordArrays) (r : BlockRuns) (c x out : List ℕ)
    (t : TypedFields f) (v : TypedBlock b r c) (u : TypedArrays a) (ok : write_refusal f b a c x out ≡ 0) where
  w : Writable f b a c x
  w = (writable f b a c x out ok).0

  m : Proper f a
  m = w.given

  s : List ℕ
  s = record_of f b a r c x

  size : length s ≡ 776
  unfolding s
  size = record_length f b a r c x (sizes_of a u) (typed_length b r c v) w.bytes

  cuts : cut s columns.record_columns ≡ record_parts f b a r c x
  unfolding s record_of
  cuts = cut_join (record_parts f b a r c x) columns.record_columns 776 refl (record_fits f b a r c x (sizes_of a u) (typed_length b r c v) w.bytes)

  col : (k : ℕ) → get_or (cut s columns.record_columns) k [] ≡ get_or (record_parts f b a r c x) k []
  col k = ap (λ (ps : List (List ℕ)). get_or ps k []) cuts

  -- a column of one number, and a column of several
  one : (g : Sign) (i w : ℕ) (y : Number g) → 1 ≤ w → Holds g w y → part s i w ≡ number_octets g w y → number_at g s i w ≡ y
  one g i w y some h e = read_number w some g s i y h e

  several : (g : Sign) (i w n : ℕ) (ys : List (Number g)) → 1 ≤ w → i + w * n ≤ 776 → length ys ≡ n → HoldsAll g w ys
      → part s i (w * n) ≡ numbers_octets g w ys → numbers_at g s i w n ≡ ys
  several g i w n ys some h l b e =
      ap (numbers_at g s i w) (sym l)
      ∙ read_numbers w some g ys s i (rw (l, size) h) b (ap (λ (k : ℕ). part s i (w * k)) l ∙ e)

  quality_is : nat_at s 28 3 ≡ quality_bits f.quality
  quality_is = read_write 3 s 28 (quality_bits f.quality) (col 7) (quality_lt f.quality)

  good_is : nat_at s 28 3 % 1048576 ≡ f.quality.good
  good_is = ap (λ (n : ℕ). n % 1048576) quality_is ∙ (quality_parts f.quality m.good m.quality_carried).0

  counter_is : nat_at s 31 1 ≡ good_count f.quality.good
  counter_is = read_write 1 s 31 (good_count f.quality.good) (col 8) (omega (arith, bits_set_le f.quality.good 20))

  -- the ground's two numbers
  ground_is : ints_at s 336 4 2 ≡ f.position.ground_latitude ∷ f.position.ground_longitude ∷ []
  ground_is = several complement 336 4 2 (f.position.ground_latitude ∷ f.position.ground_longitude ∷ []) (omega arith) (omega arith) refl held (col 21)
    where
      held : HoldsAll complement 4 (f.position.ground_latitude ∷ f.position.ground_longitude ∷ [])
      held zero = t.ground_latitude
      held (suc zero) = t.ground_longitude
      held (suc (suc k)) = omega arith

  fields_are : fields_of s ≡ counted f
  unfolding fields_of time_of position_of quality_of pointing_of ranges_of receiver_of link_of ints_at
  fields_are =
      let whole = one complement 0 4 f.time.whole (omega arith) t.whole (col 0) in
      let micros = one complement 4 4 f.time.micros (omega arith) t.micros (col 1) in
      let orbit = one unsigned 8 4 f.position.orbit (omega arith) t.orbit (col 2) in
      let lat = one complement 12 4 f.position.latitude (omega arith) t.latitude (col 3) in
      let lon = one complement 16 4 f.position.longitude (omega arith) t.longitude (col 4) in
      let radial = one unsigned 20 4 f.position.radial_distance (omega arith) t.radial_distance (col 5) in
      let mid = one unsigned 24 4 f.ranges.mid_point_range (omega arith) t.mid_point_range (col 6) in
      let good = good_is in
      let carried = ap (λ (n : ℕ). n / 1048576 % 16) quality_is ∙ (quality_parts f.quality m.good m.quality_carried).1 in
      let counter = counter_is in
      let descriptor = descriptor_given f.descriptor a.shots.failures s u.shots.failures (col 9) m.descriptor_carried in
      let frame = one unsigned 128 4 f.ranges.frame_radius (omega arith) t.frame_radius (col 11) in
      let ra = one complement 132 4 f.pointing.right_ascension (omega arith) t.right_ascension (col 12) in
      let dec = one complement 136 4 f.pointing.declination (omega arith) t.declination (col 13) in
      let twist = one complement 140 4 f.pointing.twist (omega arith) t.twist (col 14) in
      let ground = ground_is in
      let delay = one unsigned 456 4 f.ranges.delay (omega arith) t.delay (col 25) in
      let width = one unsigned 460 4 f.ranges.width (omega arith) t.width (col 26) in
      let mask = one unsigned 480 2 f.receiver.channel_mask (omega arith) t.channel_mask (col 28) in
      let hits = one unsigned 482 2 f.receiver.minimum_hits (omega arith) t.minimum_hits (col 29) in
      let count = one unsigned 484 2 f.receiver.hit_count (omega arith) t.hit_count (col 30) in
      let frames = one unsigned 486 2 f.receiver.frame_counter (omega arith) t.frame_counter (col 31) in
      let trigger = one unsigned 488 2 f.receiver.trigger (omega arith) t.trigger (col 32) in
      let index = one unsigned 490 2 f.receiver.frame_index (omega arith) t.frame_index (col 33) in
      let seconds = one complement 500 4 f.link.seconds (omega arith) t.seconds (col 35) in
      let millis = one complement 504 2 f.link.millis (omega arith) t.millis (col 36) in
      let fine = one unsigned 506 2 f.link.fine_time (omega arith) t.fine_time (col 37) in
      λ i. record {
        time = record { whole = whole i; micros = micros i };
        position = record {
          orbit = orbit i;
          latitude = lat i;
          longitude = lon i;
          radial_distance = radial i;
          ground_latitude = get_or (ground i) 0 (pos 0);
          ground_longitude = get_or (ground i) 1 (pos 0);
        };
        quality = record { good = good i; carried = carried i; counter = counter i };
        descriptor = descriptor i;
        pointing = record { right_ascension = ra i; declination = dec i; twist = twist i };
        ranges = record { mid_point_range = mid i; frame_radius = frame i; delay = delay i; width = width i };
        receiver = record {
          channel_mask = mask i;
          minimum_hits = hits i;
          hit_count = count i;
          frame_counter = frames i;
          trigger = trigger i;
          frame_index = index i;
        };
        link = record { seconds = seconds i; millis = millis i; fine_time = fine i };
      }

  -- item k of a column of 20 numbers
  item_is : (i w k : ℕ) (ys : List ℕ) → nats_at s i w 20 ≡ ys → k < 20 → nat_at s (i + w * k) w ≡ get_or ys k 0
  unfolding nats_at
  item_is i w k ys e h = sym (table_at 20 (λ j. nat_at s (i + w * j) w) k 0 h) ∙ ap (λ (l : List ℕ). get_or l k 0) e

  classes_are : classes_of s ≡ a.shots.class
  unfolding classes_of
  classes_are =
      let cs = a.shots.class in
      let d = class_of 0 in
      let l = u.shots.class.0 in
      let numbers : nats_at s 384 2 20 ≡ map class_number cs =
      several unsigned 384 2 20 (map class_number cs) (omega arith) (omega arith) (length-map cs class_number ∙ l) u.shots.class.1 (col 23) in
      table_below 20 (λ k. class_of (item s columns.class k)) (λ k. get_or cs k d)
      (λ k h. ap class_of (item_is 384 2 k (map class_number cs) numbers h ∙ get_or-map class_number cs k d)
      ∙ class_of_lem (get_or cs k d) (each_at is_proper cs k d m.classes (rw l h)))
      ∙ ap (λ (n : ℕ). table n (λ k. get_or cs k d)) (sym l) ∙ table_self cs d

  encoders_are : encoders_of s ≡ a.shots.encoder
  unfolding encoders_of
  encoders_are =
      let es = a.shots.encoder in
      let d = encoder_of 0 in
      let l = u.shots.encoder in
      let bytes : nats_at s 620 1 20 ≡ map encoder_byte es =
      several unsigned 620 1 20 (map encoder_byte es) (omega arith) (omega arith) (length-map es encoder_byte ∙ l) (byte_lt es) (col 40) in
      table_below 20 (λ k. encoder_of (item s columns.encoder k)) (λ k. get_or es k d)
      (λ k h. ap encoder_of (item_is 620 1 k (map encoder_byte es) bytes h ∙ get_or-map encoder_byte es k d)
      ∙ encoder_of_lem (get_or es k d) (each_at has_two_bits es k d m.encoders (rw l h)))
      ∙ ap (λ (n : ℕ). table n (λ k. get_or es k d)) (sym l) ∙ table_self es d
    where
      byte_lt : (es : List Encoder) (k : ℕ) → get_or (map encoder_byte es) k 0 < 256
      byte_lt [] k = omega arith
      byte_lt (e ∷ es) zero = omega arith
      byte_lt (e ∷ es) (suc k) = byte_lt es k

  arrays_are : arrays_of s ≡ a
  unfolding arrays_of shot_arrays_of channel_arrays_of
  arrays_are =
      let v = u.shots in
      let radius = several unsigned 48 4 20 a.shots.radius (omega arith) (omega arith) v.radius.0 v.radius.1 (col 10) in
      let energy = several unsigned 144 2 20 a.shots.energy (omega arith) (omega arith) v.energy.0 v.energy.1 (col 15) in
      let reflectivity = several unsigned 184 2 20 a.shots.reflectivity (omega arith) (omega arith) v.reflectivity.0 v.reflectivity.1 (col 16) in
      let channel = several unsigned 224 1 20 a.shots.trigger_channel (omega arith) (omega arith) v.trigger_channel.0 v.trigger_channel.1 (col 17) in
      let pulse = several unsigned 244 2 20 a.shots.pulse_width (omega arith) (omega arith) v.pulse_width.0 v.pulse_width.1 (col 18) in
      let optical = several unsigned 284 2 20 a.shots.optical_width (omega arith) (omega arith) v.optical_width.0 v.optical_width.1 (col 19) in
      let power = several unsigned 344 2 20 a.shots.laser_power (omega arith) (omega arith) v.laser_power.0 v.laser_power.1 (col 22) in
      let class = classes_are in
      let encoder = encoders_are in
      let failures = failures_given f.descriptor a.shots.failures s v.failures (col 9) in
      let noise = several unsigned 424 4 8 a.channels.noise (omega arith) (omega arith) u.noise.0 u.noise.1 (col 24) in
      let thresholds = several unsigned 464 2 8 a.channels.thresholds (omega arith) (omega arith) u.thresholds.0 u.thresholds.1 (col 27) in
      let xyz = several complement 324 4 3 a.xyz (omega arith) (omega arith) u.xyz.0 u.xyz.1 (col 20) in
      let header = several unsigned 492 4 2 a.source_header (omega arith) (omega arith) u.source_header.0 u.source_header.1 (col 34) in
      λ i. record {
        shots = record {
          radius = radius i;
          energy = energy i;
          reflectivity = reflectivity i;
          trigger_channel = channel i;
          pulse_width = pulse i;
          optical_width = optical i;
          laser_power = power i;
          class = class i;
          encoder = encoder i;
          failures = failures i;
        };
        channels = record { noise = noise i; thresholds = thresholds i };
        xyz = xyz i;
        source_header = header i;
      }

  uninterpreted_are : uninterpreted_of s ≡ x
  unfolding uninterpreted_of
  uninterpreted_are =
      ap₂ (λ (p q : List ℕ). p ++ q) (octets_part s 536 84 (rw size (omega arith)) ∙ col 39) (octets_part s 640 136 (rw size (omega arith)) ∙ col 41)
      ∙ take-append-drop 84 x

  index_is : nat_at s 490 2 ≡ f.receiver.frame_index
  index_is = one unsigned 490 2 f.receiver.frame_index (omega arith) t.frame_index (col 33)

  -- the block by its frame
  block_is : ReadAs s b (kept_runs b r) (kept_carried c)
  block_is = block_read s b r c v w.carried (col 38) (rw size (omega arith)) (index_is ∙ sym w.frame)

  not_refused : 0 ≡ record_refusal s
  unfolding record_refusal
  not_refused =
      let c : good_count (nat_at s 28 3) ≡ nat_at s 31 1 = sym (count_low (nat_at s 28 3)) ∙ ap good_count good_is ∙ sym counter_is in
      let micros = one complement 4 4 f.time.micros (omega arith) t.micros (col 1) in
      let lat = one complement 12 4 f.position.latitude (omega arith) t.latitude (col 3) in
      let index = index_is in
      pass_eq _ _ 11 _ 0 size (pass_eq _ _ 12 _ 0 c (sym ((λ i. values_refusal (micros i) (lat i) (index i)) ∙ m.values)))

  read_again : (read_due s ≡ answered (counted f, b)) × (read_arrays s ≡ a) × (read_runs s ≡ kept_runs b r) × (read_carried s ≡ kept_carried c)
      × (read_uninterpreted s ≡ x)
  read_again =
      let z = sym not_refused in
      let e = sym fields_are in
      let q = sym block_is.block in (
        sym (say_answered _ (fields_of s, block_of s) (counted f, b) z (λ i. (e i, q i))),
        sym (after_done _ (arrays_of s) no_arrays a z (sym arrays_are)),
        sym (after_done _ (runs_of s) no_runs (kept_runs b r) z (sym block_is.runs)),
        sym (after_done _ (carried_of s) no_carried (kept_carried c) z (sym block_is.carried)),
        sym (after_done _ (uninterpreted_of s) no_uninterpreted x z (sym uninterpreted_are)),
      )

pub read_back : ReadsBack
unfolding s
read_back f b a r c x out t v u ok = read_again f b a r c x out t v u ok
