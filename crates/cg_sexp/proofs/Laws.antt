-- A text has one list of forms or one first fault, and the reader gives it.
use Rattle.std.specs.Prelude.{◌≡◌, ℕ, ◌⊎◌, true, List, [], ◌∷◌, ◌++◌, map, Result, Ok, Err, refl}
use Rattle.std.specs.List.{zip}
use Rattle.std.proofs.Common.{append_assoc, ◌∙◌, ap, sym, subst, inl, inr}
use Rattle.std.proofs.lemmas.List.{append-nil}
use Rattle.cg_base.specs.declared.form.Form.{Form}
use Rattle.cg_base.specs.declared.form.Form.TheVariants.{Items}
use Rattle.cg_base.specs.declared.form.Top.{Top}
use Rattle.cg_base.specs.declared.form.Forms.{Forms}
use Rattle.cg_base.specs.declared.refusal.Refusal.{Refusal}
use Rattle.cg_base.specs.Grammar.{Spells, done, space, leaf, list}
use Rattle.cg_base.specs.Reading.{top, ended, Reads, IsFault}
use Rattle.cg_sexp.specs.Machine.{whole, between, ends, empty_nest, read_all}
use Rattle.cg_sexp.proofs.Taken.{takes, puts}
use Rattle.cg_sexp.proofs.Stops.{fault_stops}
use Rattle.cg_sexp.proofs.Front.{line_ends, line_ends-append}
use Rattle.cg_sexp.proofs.Sound.{Tail, last, Meets, sound}

-- Forms that stand in no other are put at the end.
puts_outside : {k l : ℕ} {fs : List Form} {ls bs : List ℕ} → Spells k l fs ls bs → (file : ℕ) (tops : List Top) →
    puts fs ls (record { file = file; tops = tops; lists = [] }) ≡ record { file = file; tops = tops ++ map (top file) (zip fs ls); lists = [] }
puts_outside done file tops = ap (λ ts. record { file = file; tops = ts; lists = [] }) (sym (append-nil tops))
puts_outside (space w h s) file tops = puts_outside s file tops
puts_outside (leaf {l} {f} {fs} {ls} w h s) file tops =
    puts_outside s file (tops ++ top file (f, l) ∷ []) ∙ ap (λ ts. record { file = file; tops = ts; lists = [] }) (append_assoc tops (top file (f, l) ∷ []) (map (top file) (zip fs ls)))
puts_outside (list {l} {gs} {fs} {ls} s t) file tops =
    puts_outside t file (tops ++ top file (Items gs, l) ∷ []) ∙ ap (λ ts. record { file = file; tops = ts; lists = [] }) (append_assoc tops (top file (Items gs, l) ∷ []) (map (top file) (zip fs ls)))

pub spelled_given : {l : ℕ} {fs : List Form} {ls bs : List ℕ} → Spells 200 l fs ls bs → (file : ℕ) → ends (between l (empty_nest file)) bs ≡ Ok (map (top file) (zip fs ls))
spelled_given {l} {bs} s file =
    ap (ends (between l (empty_nest file))) (sym (append-nil bs)) ∙ takes s (empty_nest file) refl [] refl ∙ ap whole (puts_outside s file [])

pub list_given : (bytes : List ℕ) (file : ℕ) (answer : Forms) → Reads bytes file answer → read_all file (ended bytes) ≡ Ok answer.tops
list_given bytes file answer x = spelled_given x.spelled file ∙ ap (λ ts. Ok ts) (sym x.tops)

pub fault_given : (bytes : List ℕ) (file : ℕ) (r : Refusal) → IsFault bytes file r → read_all file (ended bytes) ≡ Err r
fault_given bytes file r x = fault_stops file x (empty_nest file) refl refl

is_ended : (bytes : List ℕ) → line_ends true (ended bytes) ≡ true
is_ended bytes = line_ends-append true bytes (10 ∷ [])

tail_read : (bytes : List ℕ) (file : ℕ) (tops : List Top) → Tail 0 200 1 (empty_nest file) (ended bytes) tops → Reads bytes file (record { tops = tops })
tail_read bytes file tops (last {fs} {ls} s h) = record { forms = fs; lines = ls; spelled = s; tops = let g = sym (ap whole (puts_outside s file [])) ∙ h in cc }

pub list_found : (bytes : List ℕ) (file : ℕ) (tops : List Top) → read_all file (ended bytes) ≡ Ok tops → Reads bytes file (record { tops = tops })
list_found bytes file tops e =
    let P : Result (List Top) Refusal → Type 0 = λ r. Meets 0 200 1 (empty_nest file) (ended bytes) r in
    tail_read bytes file tops (subst P e (sound (ended bytes) (is_ended bytes) 1 (empty_nest file) refl))

pub fault_found : (bytes : List ℕ) (file : ℕ) (r : Refusal) → read_all file (ended bytes) ≡ Err r → IsFault bytes file r
fault_found bytes file r e =
    let P : Result (List Top) Refusal → Type 0 = λ r. Meets 0 200 1 (empty_nest file) (ended bytes) r in
    subst P e (sound (ended bytes) (is_ended bytes) 1 (empty_nest file) refl)

-- A text has one list at most.
pub one_list : (bytes : List ℕ) (file : ℕ) (a b : Forms) → Reads bytes file a → Reads bytes file b → a ≡ b
one_list bytes file a b x y =
    let e : a.tops ≡ b.tops = let g = sym (list_given bytes file a x) ∙ list_given bytes file b y in cc in
    λ i. record { tops = e i }

-- A text has one first fault at most.
pub one_fault : (bytes : List ℕ) (file : ℕ) (q r : Refusal) → IsFault bytes file q → IsFault bytes file r → q ≡ r
one_fault bytes file q r x y = let g = sym (fault_given bytes file q x) ∙ fault_given bytes file r y in cc

-- A text with a list has no fault.
pub not_both : (bytes : List ℕ) (file : ℕ) (answer : Forms) (r : Refusal) → Reads bytes file answer → IsFault bytes file r → ⊥
not_both bytes file answer r x y = let g = sym (list_given bytes file answer x) ∙ fault_given bytes file r y in cc

-- A text has a list or a fault.
pub list_or_fault : (bytes : List ℕ) (file : ℕ) → ((answer : Forms) × Reads bytes file answer) ⊎ ((r : Refusal) × IsFault bytes file r)
list_or_fault bytes file = from (read_all file (ended bytes)) refl where
  from : (r : Result (List Top) Refusal) → read_all file (ended bytes) ≡ r → ((answer : Forms) × Reads bytes file answer) ⊎ ((r : Refusal) × IsFault bytes file r)
  from (Ok tops) e = inl (record { tops = tops }, list_found bytes file tops e)
  from (Err r) e = inr (r, fault_found bytes file r e)
