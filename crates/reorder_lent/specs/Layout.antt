-- The session record as it lies in memory, for callers in other languages: 24 bytes, aligned to 4, each field at its byte from 0, as C lays the
-- struct out. Six numbers of 4 bytes: no byte is padding.
use Rattle.std.specs.Prelude.{◌≡◌, [], ◌∷◌}
use Rattle.std.proofs.Math.Option.{some}
use mir.Syntax.{Ty, ty_int, w32}
use mir.Val.{Val, vint, vstruct, vcons, vnil}
use prog.Memory.{size, align, field_of}
use denote.Laws.{Is}
use denote.Struct.Declared.{Declared, shape, row}
use denote.Struct.Struct.{layout}
use Rattle.reorder_session.specs.declared.Session.{Session}
use Rattle.position.specs.contracts.Anchor as In-anchor
use Rattle.window.specs.contracts.Window as In-window
use Rattle.reorder_session.specs.contracts.Session as In-session

-- how a struct is laid out
abbrev pub laid : Declared → Ty
laid T = layout (shape T)

abbrev pub pair : Val → Val → Val
pair v w = vstruct (vcons v (vcons w vnil))

pub record SessionLayout : Type 0 where
  pub bytes : size (laid In-session.the_type) ≡ 24
  pub aligned : align (laid In-session.the_type) ≡ 4
  -- the fields in their order: v is what lies in memory where the session is s
  pub fields : (s : Session) (v : Val) → Is (row In-session.the_type) s (v ∷ []) → v ≡ vstruct
      (vcons (pair (vint w32 s.anchor.count) (vint w32 s.anchor.time))
      (vcons (vint w32 s.sum_word)
      (vcons (vint w32 s.threshold)
      (vcons (pair (vint w32 s.window.start) (vint w32 s.window.marks)) vnil))))
  -- and where each begins, in the record or in its part
  pub anchor : field_of (laid In-session.the_type) 0 ≡ some (laid In-anchor.the_type, 0)
  pub anchor_count : field_of (laid In-anchor.the_type) 0 ≡ some (ty_int w32, 0)
  pub anchor_time : field_of (laid In-anchor.the_type) 1 ≡ some (ty_int w32, 4)
  pub sum_word : field_of (laid In-session.the_type) 1 ≡ some (ty_int w32, 8)
  pub threshold : field_of (laid In-session.the_type) 2 ≡ some (ty_int w32, 12)
  pub window : field_of (laid In-session.the_type) 3 ≡ some (laid In-window.the_type, 16)
  pub window_start : field_of (laid In-window.the_type) 0 ≡ some (ty_int w32, 0)
  pub window_marks : field_of (laid In-window.the_type) 1 ≡ some (ty_int w32, 4)
