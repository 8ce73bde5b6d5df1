-- Words in small letters, each once.
use Rattle.std.specs.Prelude.{ℕ, suc, ◌+◌, ◌<◌, length, drop, Bool, true, false, ◌||◌, if◌then◌else◌, List, [], ◌∷◌, ◌++◌, map}
use Rattle.std.specs.List.{list_any, flat_map}
use Rattle.std.proofs.Common.{◌≡◌, refl, sym, ap, ◌∙◌, subst, get_or, arith}
use Rattle.std.proofs.Math.Seq.{drop-cons}
use Rattle.std.proofs.lemmas.Bool.Decides.{nat_tests}
use Rattle.std.specs.Cmp.Lexicographic.{bytes_decides}
use Rattle.cg_base.specs.Texts.{same_text}
use Rattle.cg_model_source.specs.Spelling.{is_keyword}
use Rattle.cg_model.specs.Words.{lower, same_word, words_of}
use Rattle.cg_model.specs.declared.hardware.Hardware.{Hardware}
use Rattle.cg_model.specs.declared.hardware.NamedValue.{NamedValue}
use Rattle.cg_syntax_spelling.specs.Lowered.{AreLowered, SameKeywords, put_word, put_words}

lower_twice : (b : ℕ) → lower (lower b) ≡ lower b
lower_twice b = grind (arith, nat_tests)

pub lowered_twice : (w : List ℕ) → map lower (map lower w) ≡ map lower w
lowered_twice [] = refl
lowered_twice (b ∷ bs) = rw (lower_twice b, lowered_twice bs) refl

-- Among words in small letters it is enough to look for the text in small letters.
pub known : (keys : List (List ℕ)) (text : List ℕ) → AreLowered keys → list_any (same_text (map lower text)) keys ≡ is_keyword keys text
known [] text are = refl
known (k ∷ ks) text are = rw (are.0, known ks text are.1) refl

pub put_more : (words v w : List (List ℕ)) → put_words words (v ++ w) ≡ put_words (put_words words v) w
put_more words [] w = refl
put_more words (x ∷ v) w = put_more (put_word words x) v w

append_lowered : (words : List (List ℕ)) (w : List ℕ) → AreLowered words → AreLowered (words ++ map lower w ∷ [])
append_lowered [] w are = (lowered_twice w, tt)
append_lowered (x ∷ words) w are = (are.0, append_lowered words w are.1)

put_either : (stands : Bool) (words : List (List ℕ)) (w : List ℕ) → AreLowered words → AreLowered (if stands then words else words ++ map lower w ∷ [])
put_either true words w are = are
put_either false words w are = append_lowered words w are

put_lowered : (words : List (List ℕ)) (w : List ℕ) → AreLowered words → AreLowered (put_word words w)
put_lowered words w are = put_either (list_any (same_text (map lower w)) words) words w are

all_lowered : (words listed : List (List ℕ)) → AreLowered words → AreLowered (put_words words listed)
all_lowered words [] are = are
all_lowered words (w ∷ listed) are = all_lowered (put_word words w) listed (put_lowered words w are)

drop_next : {A : Type 0} (xs : List A) (k : ℕ) (d : A) → k < length xs → drop k xs ≡ get_or xs k d ∷ drop (k + 1) xs
drop_next xs k d within =
    let next : suc k ≡ k + 1 = omega arith in
    drop-cons xs k d within ∙ ap (λ n. get_or xs k d ∷ drop n xs) next

pub word_step : (words : List (List ℕ)) (listed : List NamedValue) (k : ℕ) (d : NamedValue) → k < length listed →
    put_words words (map (λ w. w.word) (drop k listed)) ≡ put_words (put_word words (get_or listed k d).word) (map (λ w. w.word) (drop (k + 1) listed))
word_step words listed k d within = ap (λ ws. put_words words (map (λ w. w.word) ws)) (drop_next listed k d within)

pub hardware_step : (words : List (List ℕ)) (hs : List Hardware) (k : ℕ) (d : Hardware) → k < length hs →
    put_words words (flat_map words_of (drop k hs)) ≡ put_words (put_words words (words_of (get_or hs k d))) (flat_map words_of (drop (k + 1) hs))
hardware_step words hs k d within =
    ap (λ xs. put_words words (flat_map words_of xs)) (drop_next hs k d within) ∙ put_more words (words_of (get_or hs k d)) (flat_map words_of (drop (k + 1) hs))

pub are_lowered : (keys listed : List (List ℕ)) → keys ≡ put_words [] listed → AreLowered keys
are_lowered keys listed e = subst AreLowered (sym e) (all_lowered [] listed tt)

either_false : (b : Bool) → (b || false) ≡ b
either_false true = refl
either_false false = refl

either_false_first : (a b c : Bool) → ((a || b) || c) ≡ (a || (b || c))
either_false_first true b c = refl
either_false_first false b c = refl

any_append : (test : List ℕ → Bool) (v w : List (List ℕ)) → list_any test (v ++ w) ≡ (list_any test v || list_any test w)
any_append test [] w = refl
any_append test (x ∷ v) w = ap (λ b. test x || b) (any_append test v w) ∙ sym (either_false_first (test x) (list_any test v) (list_any test w))

-- A word that stands there already says nothing new.
stands_already : (words : List (List ℕ)) (w text : List ℕ) (same : Bool) → AreLowered words → list_any (same_text (map lower w)) words ≡ true → same_word text w ≡ same → is_keyword words text ≡ (is_keyword words text || same)
stands_already words w text false are stands e = sym (either_false (is_keyword words text))
stands_already words w text true are stands e =
    let equal : map lower text ≡ map lower w = (bytes_decides (map lower text) (map lower w)).0 e in
    let there : is_keyword words text ≡ true = sym (known words text are) ∙ ap (λ t. list_any (same_text t) words) equal ∙ stands in
    there ∙ sym (ap (λ b. b || true) there)

put_known : (stands : Bool) (words : List (List ℕ)) (w text : List ℕ) → AreLowered words → list_any (same_text (map lower w)) words ≡ stands →
    is_keyword (if stands then words else words ++ map lower w ∷ []) text ≡ (is_keyword words text || same_word text w)
put_known true words w text are e = stands_already words w text (same_word text w) are e refl
put_known false words w text are e =
    any_append (same_word text) words (map lower w ∷ []) ∙ ap (λ b. is_keyword words text || b) (either_false (same_word text (map lower w)) ∙ ap (same_text (map lower text)) (lowered_twice w))

put_all_known : (words listed : List (List ℕ)) (text : List ℕ) → AreLowered words → is_keyword (put_words words listed) text ≡ (is_keyword words text || is_keyword listed text)
put_all_known words [] text are = sym (either_false (is_keyword words text))
put_all_known words (w ∷ listed) text are =
    put_all_known (put_word words w) listed text (put_lowered words w are)
    ∙ ap (λ b. b || is_keyword listed text) (put_known (list_any (same_text (map lower w)) words) words w text are refl)
    ∙ either_false_first (is_keyword words text) (same_word text w) (is_keyword listed text)

pub same_words : (keys listed : List (List ℕ)) → keys ≡ put_words [] listed → SameKeywords keys listed
same_words keys listed e text = ap (λ k. is_keyword k text) e ∙ put_all_known [] listed text tt
