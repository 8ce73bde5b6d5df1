-- Literals that meet.
use Rattle.std.proofs.Common.{append_assoc, ◌≡◌, ℕ, List, [], ◌∷◌, ◌++◌, Option, Some, None, refl, sym, ap}
use Rattle.std.proofs.lemmas.Grind.{common_steps}
use Rattle.cg_insn.specs.declared.syntax.NamedPiece.{NamedPiece}
use Rattle.cg_insn.specs.declared.syntax.NamedPiece.TheVariants.{Literal, Slot}
use Rattle.cg_desc_choices.specs.declared.written.Spot.{Spot}
use Rattle.cg_desc_choices.specs.declared.written.WrittenPiece.{WrittenPiece}
use Rattle.cg_desc_choices.specs.declared.joining.Held.{Held}
use Rattle.cg_desc_choices.specs.Choices.{literal_at, literal_before, literal_meeting}
use Rattle.cg_desc_choices.specs.Holding.{behind_held, longer}

by_piece : (s t : Spot) (a b : List ℕ) (p : WrittenPiece) (q : NamedPiece) (ps : List WrittenPiece) →
    literal_meeting s a (literal_before t b p q ps) ≡ literal_before s (a ++ b) p q ps
by_piece s t a b p (Literal c) ps = ap (λ text. literal_at s text ∷ ps) (sym (append_assoc a b c))
by_piece s t a b p (Slot c) ps = refl

-- two literals in front are one
twice : (s t : Spot) (a b : List ℕ) (ps : List WrittenPiece) → literal_meeting s a (literal_meeting t b ps) ≡ literal_meeting s (a ++ b) ps
twice s t a b [] = refl
twice s t a b (p ∷ ps) = by_piece s t a b p p.piece ps

-- a literal behind one that is held back
pub held_longer : (before : Option Held) (spot : Spot) (text : List ℕ) (ps : List WrittenPiece) →
    behind_held (Some (longer before spot text)) ps ≡ behind_held before (literal_meeting spot text ps)
held_longer None spot text ps = refl
held_longer (Some h) spot text ps = sym (twice h.spot spot h.text text ps)

-- what is held back stands before a slot
pub held_before_slot : (before : Option Held) (p : WrittenPiece) (name : List ℕ) (ps : List WrittenPiece) → p.piece ≡ Slot name →
    behind_held before (p ∷ ps) ≡ behind_held before [] ++ p ∷ ps
held_before_slot None p name ps is = refl
held_before_slot (Some h) p name ps is = ap (λ q. literal_before h.spot h.text p q ps) is

pub ruleset meeting_rules = (common_steps, held_longer, held_before_slot)
