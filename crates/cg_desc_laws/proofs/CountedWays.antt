-- What is chosen in each way to choose: one choice for each operand, in their order, and each of a kind that all choices are of.
use Rattle.std.proofs.Common.{◌≡◌, ◌∙◌, ℕ, zero, suc, List, [], ◌∷◌, ◌++◌, map, take, refl, sym, ap, subst}
use Rattle.std.specs.List.{flat_map}
use Rattle.cg_desc_choices.specs.declared.written.Anyof.{Anyof}
use Rattle.cg_desc_choices.specs.declared.written.Choice.{Choice}
use Rattle.cg_desc_choices.specs.Choices.{Chosen}
use Rattle.cg_desc_choices.specs.Ways.{and_chosen, with_each, ways_behind, ways}
use Rattle.cg_desc_laws.proofs.Members.{AllHold, all_append}
use Rattle.cg_desc_laws.proofs.CountedGiven.{all_mapped}
use Rattle.cg_desc_laws.proofs.CountedGroups.{all_so, and_nothing}
use Rattle.cg_desc_laws.proofs.CountedNodes.{map_append}
use Rattle.cg_desc_laws.proofs.CountedPlaces.{joined_more}

pub all_taken : {A : Type 0} (P : A → Type 0) (n : ℕ) (xs : List A) → AllHold P xs → AllHold P (take n xs)
all_taken P zero xs all = tt
all_taken P (suc n) [] all = tt
all_taken P (suc n) (x ∷ xs) all = (all.0, all_taken P n xs all.1)

abbrev pub chosen_for : List Chosen → List (List ℕ)
chosen_for cs = map (λ c. c.operand) cs

abbrev pub operands_of : List Anyof → List (List ℕ)
operands_of xs = map (λ a. a.operand) xs

-- A way to choose for these operands.
pub record IsWay (Good : Choice → Type 0) (operands : List (List ℕ)) (cs : List Chosen) : Type 0 where
  pub names : chosen_for cs ≡ operands
  pub choices : AllHold (λ c. Good c.choice) cs

module _ (Good : Choice → Type 0) where
  one_more : (done : List (List ℕ)) (operand : List ℕ) (way : List Chosen) → IsWay Good done way → (c : Choice) → Good c → IsWay Good (done ++ operand ∷ []) (and_chosen operand way c)
  one_more done operand way is c good =
      let last : Chosen = record { operand = operand; choice = c } in
      record {
        names = map_append (λ (x : Chosen). x.operand) way (last ∷ []) ∙ ap (λ names. names ++ operand ∷ []) is.names;
        choices = all_append (λ (x : Chosen). Good x.choice) way (last ∷ []) is.choices (good, tt);
      }

  with_one : (done : List (List ℕ)) (a : Anyof) → AllHold Good a.choices → (way : List Chosen) → IsWay Good done way → AllHold (IsWay Good (done ++ a.operand ∷ [])) (with_each a way)
  with_one done a goods way is =
      all_mapped (IsWay Good (done ++ a.operand ∷ [])) (and_chosen a.operand way) a.choices
      (all_so Good (λ c. IsWay Good (done ++ a.operand ∷ []) (and_chosen a.operand way c)) (λ c good. one_more done a.operand way is c good) a.choices goods)

  each_way : (done : List (List ℕ)) (a : Anyof) → AllHold Good a.choices → (so_far : List (List Chosen)) → AllHold (IsWay Good done) so_far → AllHold (IsWay Good (done ++ a.operand ∷ [])) (flat_map (with_each a) so_far)
  each_way done a goods [] all = tt
  each_way done a goods (way ∷ rest) all =
      all_append (IsWay Good (done ++ a.operand ∷ [])) (with_each a way) (flat_map (with_each a) rest) (with_one done a goods way all.0) (each_way done a goods rest all.1)

  behind : (done : List (List ℕ)) (so_far : List (List Chosen)) (xs : List Anyof) → AllHold (IsWay Good done) so_far → AllHold (λ a. AllHold Good a.choices) xs → AllHold (IsWay Good (done ++ operands_of xs)) (ways_behind so_far xs)
  behind done so_far [] all goods = subst (λ names. AllHold (IsWay Good names) so_far) (sym (and_nothing done)) all
  behind done so_far (a ∷ xs) all goods =
      subst (λ names. AllHold (IsWay Good names) (ways_behind (flat_map (with_each a) so_far) xs)) (joined_more done a.operand (operands_of xs))
      (behind (done ++ a.operand ∷ []) (flat_map (with_each a) so_far) xs (each_way done a goods.0 so_far all) goods.1)

  pub all_ways : (xs : List Anyof) → AllHold (λ a. AllHold Good a.choices) xs → AllHold (IsWay Good (operands_of xs)) (ways xs)
  all_ways xs goods = behind [] ([] ∷ []) xs (record { names = refl; choices = tt }, tt) goods
