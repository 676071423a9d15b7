-- The session record, by what its values are lowered to: 24 bytes, aligned to 4, each field at its byte from 0. Six numbers of 4 bytes: no byte is padding.
use Rattle.std.specs.Prelude.{◌≡◌}
use mathlib.Core.Path.{refl}
use Rattle.std.proofs.Math.Option.{some}
use mir.Syntax.{ty_int, w32}
use mir.Val.{Val, vint, vstruct, vcons, vnil}
use prog.Memory.{size, align, field_of}
use Rattle.reorder_session.specs.declared.Session.{Session}
use Rattle.position.proofs.Anchor.TheLaws as In-anchor
use Rattle.window.proofs.Window.TheLaws as In-window
use Rattle.reorder_session.proofs.Session.TheLaws as In-session

abbrev pub pair : Val → Val → Val
pair v w = vstruct (vcons v (vcons w vnil))

pub record SessionLayout : Type 0 where
  pub bytes : size In-session.mir ≡ 24
  pub aligned : align In-session.mir ≡ 4
  -- the fields in their order
  pub fields : (s : Session) → In-session.lowered s ≡ vstruct
      (vcons (pair (vint w32 s.anchor.count) (vint w32 s.anchor.time))
      (vcons (vint w32 s.sum_word)
      (vcons (vint w32 s.threshold)
      (vcons (pair (vint w32 s.window.start) (vint w32 s.window.marks)) vnil))))
  -- and where each begins, in the record or in its part
  pub anchor : field_of In-session.mir 0 ≡ some (In-anchor.mir, 0)
  pub anchor_count : field_of In-anchor.mir 0 ≡ some (ty_int w32, 0)
  pub anchor_time : field_of In-anchor.mir 1 ≡ some (ty_int w32, 4)
  pub sum_word : field_of In-session.mir 1 ≡ some (ty_int w32, 8)
  pub threshold : field_of In-session.mir 2 ≡ some (ty_int w32, 12)
  pub window : field_of In-session.mir 3 ≡ some (In-window.mir, 16)
  pub window_start : field_of In-window.mir 0 ≡ some (ty_int w32, 0)
  pub window_marks : field_of In-window.mir 1 ≡ some (ty_int w32, 4)

pub session_layout : SessionLayout
session_layout = record {
  bytes = refl;
  aligned = refl;
  fields = λ s. refl;
  anchor = refl;
  anchor_count = refl;
  anchor_time = refl;
  sum_word = refl;
  threshold = refl;
  window = refl;
  window_start = refl;
  window_marks = refl;
}
