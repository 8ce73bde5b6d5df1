-- How code sets fields.
use Rattle.std.proofs.Common.{◌≡◌, ℕ, zero, suc, ◌+◌, ◌*◌, ◌%◌, ◌^◌, ◌<◌, ◌≤◌, List, [], ◌∷◌, ◌++◌, length, take, drop, get_or, Option, Some, None, slice_get, sym, ap, ◌∙◌, refl, subst, append-nil, arith}
use Rattle.std.proofs.lemmas.Nat.{pow_pos, mod_below, one_shl}
use Rattle.std.proofs.Math.Seq.{drop-cons}
use Rattle.std.proofs.lemmas.List.{drop_all}
use Rattle.cg_base.specs.declared.mode.Mode.{Mode}
use Rattle.cg_model.specs.declared.field.Field.{Field}
use Rattle.cg_model.specs.declared.machine.Machine.{Machine}
use Rattle.cg_model.specs.declared.rtl.Rtl.{Rtl}
use Rattle.cg_model.specs.Pure.{pure_value}
use Rattle.cg_model.specs.Covers.{IsInWord}
use Rattle.cg_model.specs.Fields.{around}
use Rattle.cg_model.specs.Encoding.{ruled, Setting, setting_of, inserted_setting, inserted, with_all, with_bits}
use Rattle.cg_model.specs.Sound.{SoundField, IsRule, of_value, AreInserts}
use Rattle.cg_code.specs.Coded.{encoded}
use Rattle.cg_code.proofs.Around.{rule_of_value}
use Rattle.cg_code.proofs.Held.{held_to_encode, held_by_value}
use Rattle.cg_code.proofs.Extracted.{cut_to_bits}

-- the rule of a field
pub encoded_by : (m : Machine) (f : Field) (r : Rtl) (pc v n : ℕ) → f.encode ≡ Some r → SoundField m f → n ≡ pure_value m (around m v pc []) r (Some f.mode) → n ≡ encoded m pc v f
encoded_by m f r pc v n is sound gives =
    gives ∙ rule_of_value m f.mode v pc [] r (Some f.mode) (sound.encode r is).allowed
    ∙ sym (ap (λ o. elim o as (λ _. ℕ) [ None ↦ v | Some rule ↦ ruled m pc v f rule ]) is)

pub encoded_plain : (m : Machine) (f : Field) (pc v : ℕ) → f.encode ≡ None → v ≡ encoded m pc v f
encoded_plain m f pc v is = sym (ap (λ o. elim o as (λ _. ℕ) [ None ↦ v | Some rule ↦ ruled m pc v f rule ]) is)

pub cut_field : (f : Field) (n : ℕ) → IsInWord f → n < 2 ^ 64 → n % (1 * 2 ^ f.length % 2 ^ 128) % 2 ^ 64 ≡ n % 2 ^ f.length
cut_field f n at h = cut_to_bits f.length n (omega (arith, at.within, at.few)) h

pub cut_below_field : (f : Field) (n : ℕ) → n % 2 ^ f.length < 2 ^ f.length
cut_below_field f n = mod_below n (2 ^ f.length) (pow_pos f.length)

pub power_of_field : (f : Field) → IsInWord f → 1 * 2 ^ f.length % 2 ^ 128 ≡ 2 ^ f.length
power_of_field f at = one_shl f.length 128 (omega (arith, at.within, at.few))

-- what is set in turn
pub set_in_turn : (m : Machine) (xs ys : List Setting) (bytes : List ℕ) → with_all m (xs ++ ys) bytes ≡ with_all m ys (with_all m xs bytes)
set_in_turn m [] ys bytes = refl
set_in_turn m (x ∷ xs) ys bytes = set_in_turn m xs ys (with_bits m x.field x.bits bytes)

-- the rules `insert`, field by field
pub rule_at : (m : Machine) (own : Mode) (ks : List ℕ) (rs : List Rtl) (n : ℕ) (d : ℕ) (e : Rtl) (f : Field) → AreInserts m own ks rs → n < length ks → slice_get m.fields (get_or ks n d) ≡ Some f → IsRule m f.mode (of_value own) (get_or rs n e)
rule_at m own [] rs n d e f x within is = absurd (omega arith)
rule_at m own (k ∷ ks) [] n d e f x within is = absurd x
rule_at m own (k ∷ ks) (r ∷ rs) zero d e f x within is = x.0 f is
rule_at m own (k ∷ ks) (r ∷ rs) (suc n) d e f x within is = rule_at m own ks rs n d e f x.1 (omega (arith, within)) is

pub as_many : (m : Machine) (own : Mode) (ks : List ℕ) (rs : List Rtl) → AreInserts m own ks rs → length rs ≡ length ks
as_many m own [] [] x = refl
as_many m own [] (r ∷ rs) x = absurd x
as_many m own (k ∷ ks) [] x = absurd x
as_many m own (k ∷ ks) (r ∷ rs) x = ap suc (as_many m own ks rs x.1)

first_of : {A : Type 0} (xs : List A) (n : ℕ) (d : A) → n < length xs → take 1 (drop n xs) ≡ get_or xs n d ∷ []
first_of xs n d within = ap (take 1) (drop-cons xs n d within)

-- one of them
pub inserted_one : (m : Machine) (pc v : ℕ) (ks : List ℕ) (rs : List Rtl) (n : ℕ) (d : ℕ) (e : Rtl) (o : Option Field) → n < length ks → n < length rs → slice_get m.fields (get_or ks n d) ≡ o
    → inserted m pc v (take 1 (drop n ks)) (take 1 (drop n rs)) ≡ inserted_setting m pc v (get_or rs n e) o
inserted_one m pc v ks rs n d e o within there is =
    ap (λ xs. inserted m pc v xs (take 1 (drop n rs))) (first_of ks n d within)
    ∙ ap (λ ys. inserted m pc v (get_or ks n d ∷ []) ys) (first_of rs n e there)
    ∙ append-nil (inserted_setting m pc v (get_or rs n e) (slice_get m.fields (get_or ks n d)))
    ∙ ap (λ p. inserted_setting m pc v (get_or rs n e) p) is

pub ruled_by : (m : Machine) (own : Mode) (f : Field) (r : Rtl) (pc v n : ℕ) → IsRule m f.mode (of_value own) r → n ≡ pure_value m (around m v pc []) r (Some f.mode) → n ≡ ruled m pc v f r
ruled_by m own f r pc v n rule gives = gives ∙ rule_of_value m own v pc [] r (Some f.mode) rule.allowed

pub put_one : (m : Machine) (own : Mode) (pc v : ℕ) (ks : List ℕ) (rs : List Rtl) (n : ℕ) (d : ℕ) (e : Rtl) (f : Field) (x : ℕ) (now next : List ℕ) → AreInserts m own ks rs → n < length ks → n < length rs
    → slice_get m.fields (get_or ks n d) ≡ Some f → x ≡ pure_value m (around m v pc []) (get_or rs n e) (Some f.mode) → next ≡ with_all m (setting_of m pc f x ∷ []) now
    → next ≡ with_all m (inserted m pc v (take 1 (drop n ks)) (take 1 (drop n rs))) now
put_one m own pc v ks rs n d e f x now next are within there is gives put =
    put ∙ ap (λ y. with_all m (setting_of m pc f y ∷ []) now) (ruled_by m own f (get_or rs n e) pc v x (rule_at m own ks rs n d e f are within is) gives)
    ∙ ap (λ xs. with_all m xs now) (sym (inserted_one m pc v ks rs n d e (Some f) within there is))

-- the same where code has read the two lists
pub read_rule : (m : Machine) (own : Mode) (ks xs : List ℕ) (rs ys : List Rtl) (n : ℕ) (d : ℕ) (e r : Rtl) (f : Field) → xs ≡ ks → ys ≡ rs → r ≡ get_or ys n e → AreInserts m own ks rs → n < length ks → slice_get m.fields (get_or xs n d) ≡ Some f → IsRule m f.mode (of_value own) r
read_rule m own ks xs rs ys n d e r f ex ey er are within is =
    subst (IsRule m f.mode (of_value own)) (sym (er ∙ ap (λ zs. get_or zs n e) ey)) (rule_at m own ks rs n d e f are within (ap (λ zs. slice_get m.fields (get_or zs n d)) (sym ex) ∙ is))

pub read_one : (m : Machine) (own : Mode) (pc v : ℕ) (ks xs : List ℕ) (rs ys : List Rtl) (n : ℕ) (d : ℕ) (e r : Rtl) (f : Field) (x : ℕ) (now next : List ℕ) → xs ≡ ks → ys ≡ rs → r ≡ get_or ys n e → AreInserts m own ks rs → n < length ks → n < length rs
    → slice_get m.fields (get_or xs n d) ≡ Some f → x ≡ pure_value m (around m v pc []) r (Some f.mode) → next ≡ with_all m (setting_of m pc f x ∷ []) now
    → next ≡ with_all m (inserted m pc v (take 1 (drop n ks)) (take 1 (drop n rs))) now
read_one m own pc v ks xs rs ys n d e r f x now next ex ey er are within there is gives put =
    put_one m own pc v ks rs n d e f x now next are within there (ap (λ zs. slice_get m.fields (get_or zs n d)) (sym ex) ∙ is)
    (gives ∙ ap (λ z. pure_value m (around m v pc []) z (Some f.mode)) (er ∙ ap (λ zs. get_or zs n e) ey)) put

pub put_none : (m : Machine) (pc v : ℕ) (ks : List ℕ) (rs : List Rtl) (n : ℕ) (d : ℕ) (e : Rtl) (now : List ℕ) → n < length ks → n < length rs
    → slice_get m.fields (get_or ks n d) ≡ None → now ≡ with_all m (inserted m pc v (take 1 (drop n ks)) (take 1 (drop n rs))) now
put_none m pc v ks rs n d e now within there is = ap (λ xs. with_all m xs now) (sym (inserted_one m pc v ks rs n d e None within there is))

-- all of them, in turn
pub record Inserting (m : Machine) (pc v : ℕ) (ks : List ℕ) (rs : List Rtl) (n : ℕ) (old now : List ℕ) : Type 0 where
  pub left : with_all m (inserted m pc v (drop n ks) (drop n rs)) now ≡ with_all m (inserted m pc v ks rs) old

pub inserting_start : (m : Machine) (pc v : ℕ) (ks : List ℕ) (rs : List Rtl) (old : List ℕ) → Inserting m pc v ks rs 0 old old
inserting_start m pc v ks rs old = record { left = refl }

split_insert : (m : Machine) (pc v : ℕ) (ks : List ℕ) (rs : List Rtl) (n : ℕ) → length rs ≡ length ks → n < length ks
    → inserted m pc v (drop n ks) (drop n rs) ≡ inserted m pc v (take 1 (drop n ks)) (take 1 (drop n rs)) ++ inserted m pc v (drop (suc n) ks) (drop (suc n) rs)
split_insert m pc v [] rs n same within = absurd (omega arith)
split_insert m pc v (k ∷ ks) [] n same within = absurd (omega arith)
split_insert m pc v (k ∷ ks) (r ∷ rs) zero same within = ap (λ xs. xs ++ inserted m pc v ks rs) (sym (append-nil (inserted_setting m pc v r (slice_get m.fields k))))
split_insert m pc v (k ∷ ks) (r ∷ rs) (suc n) same within = split_insert m pc v ks rs n (omega (arith, same)) (omega (arith, within))

pub inserting_more : (m : Machine) (pc v : ℕ) (ks : List ℕ) (rs : List Rtl) (n : ℕ) (old now next : List ℕ) → length rs ≡ length ks → n < length ks → Inserting m pc v ks rs n old now
    → next ≡ with_all m (inserted m pc v (take 1 (drop n ks)) (take 1 (drop n rs))) now → Inserting m pc v ks rs (n + 1) old next
inserting_more m pc v ks rs n old now next same within h put = let e : suc n ≡ n + 1 = omega arith in subst (λ k. Inserting m pc v ks rs k old next) e (record {
  left = ap (with_all m (inserted m pc v (drop (suc n) ks) (drop (suc n) rs))) put
      ∙ sym (set_in_turn m (inserted m pc v (take 1 (drop n ks)) (take 1 (drop n rs))) (inserted m pc v (drop (suc n) ks) (drop (suc n) rs)) now)
      ∙ ap (λ xs. with_all m xs now) (sym (split_insert m pc v ks rs n same within))
      ∙ h.left;
})

pub inserting_end : (m : Machine) (pc v : ℕ) (ks : List ℕ) (rs : List Rtl) (n : ℕ) (old now : List ℕ) → length ks ≤ n → Inserting m pc v ks rs n old now → now ≡ with_all m (inserted m pc v ks rs) old
inserting_end m pc v ks rs n old now past h = ap (λ xs. with_all m (inserted m pc v xs (drop n rs)) now) (sym (drop_all n ks past)) ∙ h.left

pub ruleset coding = (encoded_by, encoded_plain, held_to_encode)

pub ruleset cutting = (cut_field, cut_below_field, power_of_field)

pub ruleset inserting = (inserting_start, inserting_end)
