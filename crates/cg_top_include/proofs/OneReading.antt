-- Over files that tell what they hold, a description is read in one way alone where no fault comes; and what is read is read
-- without a fault, or a fault came and a file is unread.
use Rattle.std.proofs.Common.{◌≡◌, ◌⊎◌, ◌≤◌, ℕ, true, false, List, [], ◌∷◌, ◌++◌, map, length, Option, Some, None, refl, sym, ap, subst, ◌∙◌, inl, inr, arith}
use Rattle.cg_base.specs.declared.form.Top.{Top}
use Rattle.cg_base.specs.declared.form.Forms.{Forms}
use Rattle.cg_base.specs.declared.refusal.Refusal.{Refusal}
use Rattle.cg_base.specs.Reading.{Reads, IsFault}
use Rattle.cg_sexp.proofs.Laws.{one_list, one_fault, not_both}
use Rattle.cg_io.specs.Held.{Held}
use Rattle.cg_pmacro.specs.declared.tops.TheConstants.{SHORT_FORMS}
use Rattle.cg_top_include.specs.declared.gathering.Fetched.{Fetched}
use Rattle.cg_top_include.specs.declared.gathering.Fetched.TheVariants.{Read, Refused, Unread}
use Rattle.cg_top_include.specs.declared.gathering.Sources.{Sources}
use Rattle.cg_top_include.specs.declared.including.Include.{Include}
use Rattle.cg_top_include.specs.Including.{is_short, parted}
use Rattle.cg_top_include.specs.Gathering.{IsLacking, HasText, with_file, with_short, may_include, too_many, placed, behind, Opens, unread, refused, read, Gathers, whole, short, file, another}

-- A file couldn't be read.
abbrev pub IsUnreadAt : Fetched → Type 0
IsUnreadAt fetched = (name : List ℕ) × (names : List (List ℕ)) × (fetched ≡ Unread name names)

unread_behind : (tops : List Top) (rest fetched : Fetched) → fetched ≡ behind tops rest → IsUnreadAt rest → IsUnreadAt fetched
unread_behind tops rest fetched q (name, names, e) = (name, names, q ∙ ap (behind tops) e)

from_rest : {A B C : Type 0} (tops : List Top) (rest fetched : Fetched) → fetched ≡ behind tops rest → (A → B) → A ⊎ (C × IsUnreadAt rest) → B ⊎ (C × IsUnreadAt fetched)
from_rest tops rest fetched q f (inl a) = inl (f a)
from_rest tops rest fetched q f (inr (x, u)) = inr (x, unread_behind tops rest fetched q u)

on_left : {A B C : Type 0} → (A → B) → A ⊎ C → B ⊎ C
on_left f (inl a) = inl (f a)
on_left f (inr c) = inr c

module _ {held : Option Held} {fault : Type 0} where
  mutual
    pub opens_known : {s : Sources} {n : List ℕ} {ts : List Top} {f : Fetched} → Opens held fault s n ts f → Opens held ⊥ s n ts f ⊎ (fault × IsUnreadAt f)
    opens_known (unread (inl lacking)) = inl (unread (inl lacking))
    opens_known (unread {sources = s} {name = n} (inr fault)) = inr (fault, (n, s.names, refl))
    opens_known (refused t x) = inl (refused t x)
    opens_known (read t r g) = on_left (λ k. read t r k) (gathers_known g)

    pub gathers_known : {s : Sources} {ts : List Top} {f : Fetched} → Gathers held fault s ts f → Gathers held ⊥ s ts f ⊎ (fault × IsUnreadAt f)
    gathers_known (whole e q) = inl (whole e q)
    gathers_known (short {sources = s} {tops = ts} {rest = rest} {fetched = f} e i r g q) = from_rest (parted s.short ts).before rest f q (λ k. short e i r k q) (gathers_known g)
    gathers_known (file {sources = s} {tops = ts} {rest = rest} {fetched = f} e i m o q) = from_rest (parted s.short ts).before rest f q (λ k. file e i m k q) (opens_known o)
    gathers_known (another e i m q) = inl (another e i m q)

one_include : (s : Sources) (ts : List Top) {x y : Include} → (parted s.short ts).include ≡ Some x → (parted s.short ts).include ≡ Some y → y ≡ x
one_include s ts {x = x} {y = y} e f = let z : Some y ≡ Some x = sym f ∙ e in cc

one_name : (x y : Include) → y ≡ x → is_short y.name ≡ is_short x.name
one_name x y same = ap (λ (z : Include). is_short z.name) same

module _ {files : Held} where
  one_text : {name a b : List ℕ} → HasText (Some files) name a → HasText (Some files) name b → a ≡ b
  one_text {a = a} {b = b} p q = let e : Some a ≡ Some b = sym p.there ∙ q.there in cc

  -- a file that is lacking or too long has no text
  lacking_text : {name bytes : List ℕ} → IsLacking (Some files) name ⊎ ⊥ → HasText (Some files) name bytes → ⊥
  lacking_text {bytes = bytes} (inl (inl lacks)) p = let e : Some bytes ≡ None = sym p.there ∙ lacks in cc
  lacking_text {bytes = bytes} (inl (inr (more, there, long))) p =
      let e : Some bytes ≡ Some more = sym p.there ∙ there in
      let same : bytes ≡ more = cc in
      let lengths : length bytes ≡ length more = ap length same in
      let within : length bytes ≤ 4194304 = p.within in
      omega (arith, lengths, within, long)
  lacking_text (inr none) p = none

  text_not_both : {name a b : List ℕ} (n : ℕ) (forms : Forms) (r : Refusal) → HasText (Some files) name a → HasText (Some files) name b → Reads a n forms → IsFault b n r → ⊥
  text_not_both {a = a} {b = b} n forms r p q x y = not_both b n forms r (subst (λ z. Reads z n forms) (one_text p q) x) y

  text_one_list : {name a b : List ℕ} (n : ℕ) (forms more : Forms) → HasText (Some files) name a → HasText (Some files) name b → Reads a n forms → Reads b n more → forms ≡ more
  text_one_list {a = a} {b = b} n forms more p q x y = one_list b n forms more (subst (λ z. Reads z n forms) (one_text p q) x) y

  text_one_fault : {name a b : List ℕ} (n : ℕ) (r t : Refusal) → HasText (Some files) name a → HasText (Some files) name b → IsFault a n r → IsFault b n t → r ≡ t
  text_one_fault {a = a} {b = b} n r t p q x y = one_fault b n r t (subst (λ z. IsFault z n r) (one_text p q) x) y

  -- what such a reading of a file gives, where the file's text has these forms
  pub opened_inside : {s : Sources} {n bytes : List ℕ} {ts : List Top} {h : Forms} {f : Fetched} → HasText (Some files) n bytes → Reads bytes (length s.names) h →
      Opens (Some files) ⊥ s n ts f → Gathers (Some files) ⊥ (with_file s n) (h.tops ++ ts) f
  opened_inside t r (unread x) = absurd (lacking_text x t)
  opened_inside {s = s} {h = h} t r (refused {refusal = q} u w) = absurd (text_not_both (length s.names) h q t u r w)
  opened_inside {s = s} {n = n} {ts = ts} {h = h} {f = f} t r (read {forms = k} u w g) =
      let same : k ≡ h = sym (text_one_list (length s.names) h k t u r w) in subst (λ (z : Forms). Gathers (Some files) ⊥ (with_file s n) (z.tops ++ ts) f) same g

  -- and what such a gathering gives, by what is met first
  whole_inside : {s : Sources} {ts : List Top} {f : Fetched} → (parted s.short ts).include ≡ None → Gathers (Some files) ⊥ s ts f →
      f ≡ Read (record { tops = (parted s.short ts).before }) s.names
  whole_inside e (whole f p) = p
  whole_inside e (short f j r g p) = absurd cc
  whole_inside e (file f j m o p) = absurd cc
  whole_inside e (another f j m p) = absurd cc

  pub short_inside : {s : Sources} {ts : List Top} {x : Include} {h : Forms} {f : Fetched} → (parted s.short ts).include ≡ Some x → is_short x.name ≡ true →
      Reads SHORT_FORMS.now 0 h → Gathers (Some files) ⊥ s ts f →
      (rest : Fetched) × Gathers (Some files) ⊥ (with_short s) (map (placed x) h.tops ++ (parted s.short ts).behind) rest × (f ≡ behind (parted s.short ts).before rest)
  short_inside e i r (whole f p) = absurd cc
  short_inside {s = s} {ts = ts} {x = x} {h = h} e i r (short {include = y} {forms = k} {rest = d} f j w l p) =
      let same : y ≡ x = one_include s ts e f in
      let list : k ≡ h = sym (one_list SHORT_FORMS.now 0 h k r w) in
      let at : Gathers (Some files) ⊥ (with_short s) (map (placed x) k.tops ++ (parted s.short ts).behind) d =
      subst (λ (z : Include). Gathers (Some files) ⊥ (with_short s) (map (placed z) k.tops ++ (parted s.short ts).behind) d) same l in
      (d, subst (λ (z : Forms). Gathers (Some files) ⊥ (with_short s) (map (placed x) z.tops ++ (parted s.short ts).behind) d) list at, p)
  short_inside {s = s} {ts = ts} {x = x} e i r (file {include = y} f j m o p) =
      let name : is_short y.name ≡ is_short x.name = one_name x y (one_include s ts e f) in absurd cc
  short_inside {s = s} {ts = ts} {x = x} e i r (another {include = y} f j m p) =
      let name : is_short y.name ≡ is_short x.name = one_name x y (one_include s ts e f) in absurd cc

  pub file_inside : {s : Sources} {ts : List Top} {x : Include} {f : Fetched} → (parted s.short ts).include ≡ Some x → is_short x.name ≡ false → may_include s ≡ true →
      Gathers (Some files) ⊥ s ts f → (rest : Fetched) × Opens (Some files) ⊥ s x.name (parted s.short ts).behind rest × (f ≡ behind (parted s.short ts).before rest)
  file_inside e i m (whole f p) = absurd cc
  file_inside {s = s} {ts = ts} {x = x} e i m (short {include = y} f j r g p) =
      let name : is_short y.name ≡ is_short x.name = one_name x y (one_include s ts e f) in absurd cc
  file_inside {s = s} {ts = ts} {x = x} e i m (file {include = y} {rest = d} f j n o p) =
      let same : y ≡ x = one_include s ts e f in
      (d, subst (λ (z : Include). Opens (Some files) ⊥ s z.name (parted s.short ts).behind d) same o, p)
  file_inside e i m (another f j n p) = absurd cc

  another_inside : {s : Sources} {ts : List Top} {x : Include} {f : Fetched} → (parted s.short ts).include ≡ Some x → is_short x.name ≡ false → may_include s ≡ false →
      Gathers (Some files) ⊥ s ts f → f ≡ Refused (too_many x) s.names
  another_inside e i m (whole f p) = absurd cc
  another_inside {s = s} {ts = ts} {x = x} e i m (short {include = y} f j r g p) =
      let name : is_short y.name ≡ is_short x.name = one_name x y (one_include s ts e f) in absurd cc
  another_inside e i m (file f j n o p) = absurd cc
  another_inside {s = s} {ts = ts} {x = x} e i m (another {include = y} f j n p) =
      let same : y ≡ x = one_include s ts e f in p ∙ ap (λ (z : Include). Refused (too_many z) s.names) same

  mutual
    pub one_opened : {s : Sources} {n : List ℕ} {ts : List Top} {a b : Fetched} → Opens (Some files) ⊥ s n ts a → Opens (Some files) ⊥ s n ts b → a ≡ b
    one_opened (unread x) (unread y) = refl
    one_opened (unread x) (refused t r) = absurd (lacking_text x t)
    one_opened (unread x) (read t r g) = absurd (lacking_text x t)
    one_opened (refused t r) (unread y) = absurd (lacking_text y t)
    one_opened (refused {sources = s} {name = n} {refusal = q} t r) (refused {refusal = p} u w) =
        ap (λ (x : Refusal). Refused x (s.names ++ n ∷ [])) (text_one_fault (length s.names) q p t u r w)
    one_opened (refused {sources = s} {refusal = q} t r) (read {forms = h} u w g) = absurd (text_not_both (length s.names) h q u t w r)
    one_opened (read t r g) y = one_gathered g (opened_inside t r y)

    pub one_gathered : {s : Sources} {ts : List Top} {a b : Fetched} → Gathers (Some files) ⊥ s ts a → Gathers (Some files) ⊥ s ts b → a ≡ b
    one_gathered (whole e q) y = q ∙ sym (whole_inside e y)
    one_gathered (short {sources = s} {tops = ts} e i r g q) y =
        let (rest, inner, p) = short_inside e i r y in q ∙ ap (behind (parted s.short ts).before) (one_gathered g inner) ∙ sym p
    one_gathered (file {sources = s} {tops = ts} e i m o q) y =
        let (rest, inner, p) = file_inside e i m y in q ∙ ap (behind (parted s.short ts).before) (one_opened o inner) ∙ sym p
    one_gathered (another e i m q) y = q ∙ sym (another_inside e i m y)

rest_unread : (tops : List Top) (rest : Fetched) (name : List ℕ) (names : List (List ℕ)) → behind tops rest ≡ Unread name names → IsUnreadAt rest
rest_unread tops (Read forms more) name names e = absurd cc
rest_unread tops (Refused refusal more) name names e = absurd cc
rest_unread tops (Unread other more) name names e = (other, more, refl)

mutual
  -- Of files that tell nothing none is known to be lacking.
  pub opens_told : {s : Sources} {n : List ℕ} {ts : List Top} {f : Fetched} → Opens None ⊥ s n ts f → IsUnreadAt f → ⊥
  opens_told (unread (inl (inl lacks))) u = lacks
  opens_told (unread (inl (inr more))) u = more
  opens_told (unread (inr none)) u = none
  opens_told (refused t x) (name, names, e) = absurd cc
  opens_told (read t r g) u = gathers_told g u

  pub gathers_told : {s : Sources} {ts : List Top} {f : Fetched} → Gathers None ⊥ s ts f → IsUnreadAt f → ⊥
  gathers_told (whole {sources = s} {tops = ts} e q) (name, names, p) =
      let f : Read (record { tops = (parted s.short ts).before }) s.names ≡ Unread name names = sym q ∙ p in absurd cc
  gathers_told (short {sources = s} {tops = ts} {rest = rest} e i r g q) (name, names, p) = gathers_told g (rest_unread (parted s.short ts).before rest name names (sym q ∙ p))
  gathers_told (file {sources = s} {tops = ts} {rest = rest} e i m o q) (name, names, p) = opens_told o (rest_unread (parted s.short ts).before rest name names (sym q ∙ p))
  gathers_told (another {sources = s} {include = x} e i m q) (name, names, p) =
      let f : Refused (too_many x) s.names ≡ Unread name names = sym q ∙ p in absurd cc
