-- What the first element is that a machine is refused for.
use Rattle.std.proofs.Common.{◌≡◌, ◌∙◌, List, [], ◌∷◌, ◌++◌, append_assoc, ℕ, Option, Some, None, refl, ap}
use Rattle.std.specs.Option.{option_or, option_map}
use Rattle.std.proofs.lemmas.Grind.{common_steps}
use Rattle.cg_base.specs.Refusing.{first}
use Rattle.cg_model.specs.declared.machine.Machine.{Machine}
use Rattle.cg_model_faults.specs.Finding.{Faults}
use Rattle.cg_model_faults.specs.E308.{all_field_nodes}
use Rattle.cg_model_faults.specs.Elements.{of_bundle, of_texts}
use Rattle.cg_model_faults.specs.Refusing.{Found, first_found, refused_for, by_data, of_fields, of_multis, of_all_hardware, of_operands, of_insns, of_macros, spent_on_fields, spent_on_multis, spent_on_hardware}
use Rattle.cg_desc_check_machine.specs.Later.{from_multis}

-- the refusal for the first of an element's faults, or for what comes behind
pub found_first : (m : Machine) (own : List ℕ) (fs : Faults) (xs : List Found) → first_found m ((own, fs) ∷ xs) ≡ option_or (option_map (refused_for m own) (first fs)) (first_found m xs)
found_first m own [] xs = refl
found_first m own (f ∷ fs) xs = refl

pub found_append : (m : Machine) (xs ys : List Found) → first_found m (xs ++ ys) ≡ option_or (first_found m xs) (first_found m ys)
found_append m [] ys = refl
found_append m ((own, []) ∷ xs) ys = found_append m xs ys
found_append m ((own, f ∷ fs) ∷ xs) ys = refl

or_assoc : {A : Type 0} (a b c : Option A) → option_or (option_or a b) c ≡ option_or a (option_or b c)
or_assoc None b c = refl
or_assoc (Some x) b c = refl

-- the same elements, as they are judged: the rest is what comes behind fields, behind multi fields and behind hardware
seven : (a b c d e f g : List Found) → a ++ b ++ c ++ d ++ e ++ f ++ g ≡ a ++ (b ++ (c ++ (d ++ e ++ f ++ g)))
seven a b c d e f g =
    ap (λ x. x ++ f ++ g) (append_assoc (a ++ b ++ c) d e)
    ∙ ap (λ x. x ++ g) (append_assoc (a ++ b ++ c) (d ++ e) f)
    ∙ append_assoc (a ++ b ++ c) (d ++ e ++ f) g
    ∙ append_assoc (a ++ b) c (d ++ e ++ f ++ g)
    ∙ append_assoc a b (c ++ (d ++ e ++ f ++ g))

pub data_in_order : (m : Machine) → by_data m ≡ ([], of_bundle m) ∷ of_fields m 0 0 m.fields ++ from_multis m (all_field_nodes m.fields)
data_in_order m =
    seven (([], of_bundle m) ∷ of_fields m 0 0 m.fields) (of_multis m 0 (spent_on_fields m) m.multis) (of_all_hardware m 0 0 (spent_on_multis m) m.hardware) (of_operands m 0 m.operands)
    (of_insns m 0 (spent_on_hardware m) m.insns) (of_macros m 0 m.macros) (([], of_texts m) ∷ [])

pub data_found : (m : Machine) → first_found m (by_data m) ≡ option_or (option_map (refused_for m []) (first (of_bundle m))) (option_or (first_found m (of_fields m 0 0 m.fields)) (first_found m (from_multis m (all_field_nodes m.fields))))
data_found m =
    ap (first_found m) (data_in_order m)
    ∙ found_append m (([], of_bundle m) ∷ of_fields m 0 0 m.fields) (from_multis m (all_field_nodes m.fields))
    ∙ ap (λ x. option_or x (first_found m (from_multis m (all_field_nodes m.fields)))) (found_first m [] (of_bundle m) (of_fields m 0 0 m.fields))
    ∙ or_assoc (option_map (refused_for m []) (first (of_bundle m))) (first_found m (of_fields m 0 0 m.fields)) (first_found m (from_multis m (all_field_nodes m.fields)))

pub ruleset fold_rules = (common_steps, found_first)

pub ruleset whole_rules = (common_steps, found_first, found_append)

pub ruleset data_rules = (common_steps, data_found)
