-- What the code holds back where it joins literals that meet.
use Rattle.std.specs.Prelude.{ℕ, List, ◌++◌, Option, Some, None}
use Rattle.cg_desc_choices.specs.declared.written.Spot.{Spot}
use Rattle.cg_desc_choices.specs.declared.written.WrittenPiece.{WrittenPiece}
use Rattle.cg_desc_choices.specs.declared.joining.Held.{Held}
use Rattle.cg_desc_choices.specs.Choices.{literal_meeting}

-- pieces behind a literal that is held back, until it is known what it meets
abbrev pub behind_held : Option Held → List WrittenPiece → List WrittenPiece
behind_held None ps = ps
behind_held (Some h) ps = literal_meeting h.spot h.text ps

-- a literal behind one that may be held back
abbrev pub longer : Option Held → Spot → List ℕ → Held
longer None spot text = record { text = text; spot = spot }
longer (Some h) spot text = record { text = h.text ++ text; spot = h.spot }
