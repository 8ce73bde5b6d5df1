-- Places of names.
use Rattle.std.proofs.Common.{◌≡◌, ℕ, suc, ◌+◌, ◌<◌, Bool, true, false, List, [], ◌∷◌, ◌++◌, map, length, drop, get_or, Option, Some, None, refl, ap, ◌∙◌, sym, arith, if◌then◌else◌, Bor, pos}
use Rattle.std.specs.Option.{option_or, option_map}
use Rattle.std.proofs.lemmas.Grind.{common_steps}
use Rattle.std.proofs.lemmas.List.{drop_more}
use Rattle.cg_base.specs.Texts.{same_text}
use Rattle.cg_base.specs.declared.form.Form.{Form}
use Rattle.cg_rtl_resolve.specs.Names.{last_place, place_of, number_named, local_name}
use Rattle.cg_rtl_resolve.specs.Read.{behind, names_of, names_step}
use Rattle.cg_rtl_resolve.specs.declared.around.Around.{Around}
use Rattle.cg_rtl_resolve.specs.declared.around.Around.TheFolds.{fold-roll-Around}
use Rattle.cg_rtl_resolve.specs.declared.around.Around.TheVariants.{Outside, Sequence, rolls-Outside, rolls-Sequence}

pub behind_suc : (k : ℕ) (a : Option ℕ) → behind k (option_map suc a) ≡ behind (k + 1) a
behind_suc k None = refl
behind_suc k (Some n) = ap Some (omega arith)

pub behind_none : (a : Option ℕ) → behind 0 a ≡ a
behind_none None = refl
behind_none (Some n) = ap Some (omega arith)

step_by : (b : Bool) (k : ℕ) (rest found : Option ℕ) → option_or (behind k (option_or (option_map suc rest) (if b then Some 0 else None))) found ≡ option_or (behind (k + 1) rest) (if b then Some k else found)
step_by true k None found = ap Some (omega arith)
step_by false k None found = refl
step_by true k (Some n) found = ap Some (omega arith)
step_by false k (Some n) found = ap Some (omega arith)

pub last_more : (name : List ℕ) (fs : List Form) (k : ℕ) (d : Form) (found : Option ℕ) → k < length fs → option_or (behind k (last_place name (map local_name (drop k fs)))) found ≡ option_or (behind (k + 1) (last_place name (map local_name (drop (k + 1) fs)))) (if same_text (local_name (get_or fs k d)) name then Some k else found)
last_more name fs k d found h =
    ap (λ ys. option_or (behind k (last_place name (map local_name ys))) found) (drop_more fs k d h)
    ∙ step_by (same_text (local_name (get_or fs k d)) name) k (last_place name (map local_name (drop (k + 1) fs))) found

pub ruleset place_rules = (common_steps, behind_none, last_more)

append_by : (a b c : Option ℕ) (k : ℕ) → option_or (option_map suc (option_or (behind k a) b)) c ≡ option_or (behind (suc k) a) (option_or (option_map suc b) c)
append_by None b c k = refl
append_by (Some n) b c k = ap Some (omega arith)

pub last_append : (name : List ℕ) (xs ys : List (List ℕ)) → last_place name (xs ++ ys) ≡ option_or (behind (length xs) (last_place name ys)) (last_place name xs)
last_append name [] ys = by (last_place name ys) where
  by : (a : Option ℕ) → a ≡ option_or (behind 0 a) None
  by None = refl
  by (Some n) = ap Some (omega arith)
last_append name (x ∷ xs) ys =
    ap (λ a. option_or (option_map suc a) (if same_text x name then Some 0 else None)) (last_append name xs ys)
    ∙ append_by (last_place name ys) (last_place name xs) (if same_text x name then Some 0 else None) (length xs)

pub names_outside : names_of Outside ≡ []
names_outside = ap names_of (sym rolls-Outside) ∙ fold-roll-Around (List (List ℕ)) names_step _

pub names_sequence : (o : Bor Around) (d : Bor (List Form)) → names_of (Sequence o d) ≡ names_of o.now ++ map local_name d.now
names_sequence o d = ap names_of (sym (rolls-Sequence o d)) ∙ fold-roll-Around (List (List ℕ)) names_step _

pub ruleset around_rules = (common_steps, names_outside, names_sequence, last_append)

first_by : (b : Bool) (k : ℕ) (rest : Option ℕ) → behind k (if b then Some 0 else option_map suc rest) ≡ (if b then Some k else behind (k + 1) rest)
first_by true k rest = ap Some (omega arith)
first_by false k None = refl
first_by false k (Some n) = ap Some (omega arith)

pub first_more : (name : List ℕ) (xs : List (List ℕ)) (k : ℕ) (d : List ℕ) → k < length xs → behind k (place_of name (drop k xs)) ≡ (if same_text (get_or xs k d) name then Some k else behind (k + 1) (place_of name (drop (k + 1) xs)))
first_more name xs k d h = ap (λ ys. behind k (place_of name ys)) (drop_more xs k d h) ∙ first_by (same_text (get_or xs k d) name) k (place_of name (drop (k + 1) xs))

pub number_is : (name : List ℕ) (xs : List (List ℕ)) → number_named name xs ≡ option_map pos (place_of name xs)
unfolding number_named
number_is name xs = refl

pub ruleset first_rules = (common_steps, behind_none, first_more, number_is)
