-- What a line of a listing is.
use Rattle.std.proofs.Common.{◌≡◌, ℕ, ◌%◌, ◌/◌, ◌^◌, ◌≤◌, ◌<◌, min, false, List, length, take, Option, Some, None, Result, Ok, Err, sym, ap, ◌∙◌, refl, inl, inr, arith}
use Rattle.std.specs.Option.{option_map}
use Rattle.std.proofs.lemmas.Bool.{cases_lt}
use Rattle.std.proofs.lemmas.List.{take_all}
use Rattle.cg_base.specs.Texts.{same_text}
use Rattle.cg_base.specs.declared.refusal.Refusal.{Refusal}
use Rattle.cg_model_source.specs.Choosing.{SourceFault}
use Rattle.cg_model.specs.Encoding.{own_pc}
use Rattle.cg_model_source.specs.Listing.{Decoder, Shown, ListedLine, gives, line_for, line_at, bundle_at}
use Rattle.cg_model.specs.Sound.{IsSound}
use Rattle.cg_model.specs.declared.machine.Machine.{Machine}
use Rattle.cg_syntax.specs.Faulting.{refusal_of}
use Rattle.cg_list.proofs.Bundled.{pc_same}

-- what a statement answers
pub gives_these : (r : Result (List ℕ) SourceFault) (given bytes : List ℕ) → r ≡ Ok given → same_text given bytes ≡ gives r bytes
gives_these r given bytes e = sym (ap (λ x. gives x bytes) e)

refused_none : (r : Result (List ℕ) SourceFault) (refusal : Refusal) (bytes : List ℕ) → refusal_of r ≡ Some refusal → false ≡ gives r bytes
refused_none (Ok given) refusal bytes e = absurd (cc)
refused_none (Err fault) refusal bytes e = refl

pub gives_none : (r : Result (List ℕ) SourceFault) (refusal : Refusal) (bytes : List ℕ) → refusal_of r ≡ Some refusal → false ≡ gives r bytes
gives_none r refusal bytes e = refused_none r refusal bytes e

pub ruleset giving = (gives_these, gives_none)

-- the first so many of some bytes
pub first_some : (n : ℕ) (bytes : List ℕ) → take (min n (length bytes)) bytes ≡ take n bytes
first_some n bytes = elim (cases_lt n (length bytes)) [
  | inl lt ↦ let few : min n (length bytes) ≡ n = omega (arith, lt) in ap (λ k. take k bytes) few
  | inr ge ↦ let all : min n (length bytes) ≡ length bytes = omega (arith, ge) in ap (λ k. take k bytes) all ∙ take_all (length bytes) bytes (omega arith) ∙ sym (take_all n bytes ge)
]

pub ruleset first_bytes = (first_some)

-- a line by the bundle that was found
pub line_by : (m : Machine) (f : Decoder) (a b pc : ℕ) (bytes : List ℕ) (bundle : Option Shown) (line : ListedLine) → IsSound m → a % 2 ^ 64 ≡ b → pc ≡ own_pc m b → ((d : ℕ) → d % 2 ^ 64 ≡ b → bundle ≡ bundle_at m f d bytes) → line ≡ line_for m pc bytes bundle → line ≡ line_at m f a bytes
unfolding line_at
line_by m f a b pc bytes bundle line sound same is found e =
    e ∙ ap (line_for m pc bytes) (found a same) ∙ ap (λ p. line_for m p bytes (bundle_at m f a bytes)) (is ∙ sym (pc_same m a b sound same))

pub ruleset lining = (line_by)
