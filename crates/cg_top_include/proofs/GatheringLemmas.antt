-- How what is gathered from some place on gives what is gathered from the place before it.
use Rattle.std.proofs.Common.{◌≡◌, ◌⊎◌, ◌≤◌, ℕ, true, false, List, [], ◌∷◌, ◌++◌, map, length, Option, Some, None, refl, sym, ap, subst, ◌∙◌, inl, inr, append_assoc, arith}
use Rattle.cg_base.specs.declared.form.Top.{Top}
use Rattle.cg_base.specs.declared.form.Forms.{Forms}
use Rattle.cg_base.specs.declared.refusal.Refusal.{Refusal}
use Rattle.cg_base.specs.Reading.{Reads, IsFault}
use Rattle.cg_base.specs.Counts.{Rose}
use Rattle.cg_io.specs.Held.{Held}
use Rattle.cg_top_include.specs.declared.gathering.Fetched.{Fetched}
use Rattle.cg_top_include.specs.declared.gathering.Fetched.TheVariants.{Read, Refused, Unread}
use Rattle.cg_top_include.specs.declared.gathering.Sources.{Sources}
use Rattle.cg_top_include.specs.declared.including.Include.{Include}
use Rattle.cg_top_include.specs.Including.{is_short, parted}
use Rattle.cg_top_include.specs.Fetching.{IsFetched}
use Rattle.cg_top_include.specs.Gathering.{no_sources, IsLacking, HasText, with_file, with_short, may_include, too_many, placed, behind, Opens, unread, refused, read, Gathers, whole, short, file, another, ComesBehind, IsShortFormsAt}

pub behind_both : (xs ys : List Top) (f : Fetched) → behind xs (behind ys f) ≡ behind (xs ++ ys) f
behind_both xs ys (Read forms names) = ap (λ (tops : List Top). Read (record { tops = tops }) names) (sym (append_assoc xs ys forms.tops))
behind_both xs ys (Refused refusal names) = refl
behind_both xs ys (Unread name names) = refl

pub behind_none : (f : Fetched) → behind [] f ≡ f
behind_none (Read forms names) = refl
behind_none (Refused refusal names) = refl
behind_none (Unread name names) = refl

-- what comes behind no forms is the reading itself
pub comes_first : {held : Option Held} {fault : Type 0} {desc : List ℕ} {s : Sources} {passed pending : List Top} {fetched : Fetched} →
    s ≡ no_sources → passed ≡ [] → pending ≡ [] → ComesBehind passed (Opens held fault s desc pending) fetched → IsFetched desc held fault fetched
comes_first {held} {fault} {desc} {s} {passed} {pending} {fetched} e p q x =
    let none : fetched ≡ x.rest = x.same ∙ ap (λ (ts : List Top). behind ts x.rest) p ∙ behind_none x.rest in
    let Sourced : Sources → Type 0 = λ t. Opens held fault t desc pending x.rest in
    let Left : List Top → Type 0 = λ ts. Opens held fault no_sources desc ts x.rest in
    subst (λ (f : Fetched). Opens held fault no_sources desc [] f) (sym none) (subst Left q (subst Sourced e x.comes))

mutual
  -- what holds with a fault holds where more may be one
  pub opens_more : {held : Option Held} {A B : Type 0} → (A → B) → {s : Sources} {n : List ℕ} {ts : List Top} {f : Fetched} → Opens held A s n ts f → Opens held B s n ts f
  opens_more w (unread (inl lacking)) = unread (inl lacking)
  opens_more w (unread (inr fault)) = unread (inr (w fault))
  opens_more w (refused t x) = refused t x
  opens_more w (read t r g) = read t r (gathers_more w g)

  pub gathers_more : {held : Option Held} {A B : Type 0} → (A → B) → {s : Sources} {ts : List Top} {f : Fetched} → Gathers held A s ts f → Gathers held B s ts f
  gathers_more w (whole e q) = whole e q
  gathers_more w (short e i r g q) = short e i r (gathers_more w g) q
  gathers_more w (file e i m o q) = file e i m (opens_more w o) q
  gathers_more w (another e i m q) = another e i m q

-- a count that rose later rose from an earlier one
pub rose_before : (a b c : ℕ) → a ≤ b → Rose b c → Rose a c
rose_before a b c h r = grind arith

module _ {held : Option Held} {fault : Type 0} (s : Sources) (tops passed new : List Top) where
  pub gathered_whole : (parted s.short tops).include ≡ None → new ≡ passed ++ (parted s.short tops).before →
      ComesBehind passed (Gathers held fault s tops) (Read (record { tops = new }) s.names)
  gathered_whole e n = record {
    rest = Read (record { tops = (parted s.short tops).before }) s.names;
    comes = whole e refl;
    same = ap (λ (ts : List Top). Read (record { tops = ts }) s.names) n;
  }

  pub gathered_short : (x : Include) (shorts left : List Top) (fetched : Fetched) → (parted s.short tops).include ≡ Some x →
      new ≡ passed ++ (parted s.short tops).before → left ≡ shorts ++ (parted s.short tops).behind → is_short x.name ≡ true → IsShortFormsAt x shorts →
      ComesBehind new (Gathers held fault (with_short s) left) fetched → ComesBehind passed (Gathers held fault s tops) fetched
  gathered_short x shorts left fetched e n l i at inner =
      let P : List Top → Type 0 = λ ts. Gathers held fault (with_short s) ts inner.rest in
      let all : left ≡ map (placed x) at.forms.tops ++ (parted s.short tops).behind = l ∙ ap (λ (ts : List Top). ts ++ (parted s.short tops).behind) at.same in
      record {
        rest = behind (parted s.short tops).before inner.rest;
        comes = short e i at.read (subst P all inner.comes) refl;
        same = inner.same ∙ ap (λ (ts : List Top). behind ts inner.rest) n ∙ sym (behind_both passed (parted s.short tops).before inner.rest);
      }

  pub gathered_file : (x : Include) (left : List Top) (fetched : Fetched) → (parted s.short tops).include ≡ Some x →
      new ≡ passed ++ (parted s.short tops).before → left ≡ (parted s.short tops).behind → is_short x.name ≡ false → may_include s ≡ true →
      ComesBehind new (Opens held fault s x.name left) fetched → ComesBehind passed (Gathers held fault s tops) fetched
  gathered_file x left fetched e n l i m inner =
      let P : List Top → Type 0 = λ ts. Opens held fault s x.name ts inner.rest in
      record {
        rest = behind (parted s.short tops).before inner.rest;
        comes = file e i m (subst P l inner.comes) refl;
        same = inner.same ∙ ap (λ (ts : List Top). behind ts inner.rest) n ∙ sym (behind_both passed (parted s.short tops).before inner.rest);
      }

  pub gathered_another : (x : Include) → (parted s.short tops).include ≡ Some x → is_short x.name ≡ false → may_include s ≡ false →
      ComesBehind passed (Gathers held fault s tops) (Refused (too_many x) s.names)
  gathered_another x e i m = record { rest = Refused (too_many x) s.names; comes = another e i m refl; same = refl }

module _ {held : Option Held} {fault : Type 0} (s : Sources) (name : List ℕ) (tops passed : List Top) where
  pub opened_unread : IsLacking held name ⊎ fault → ComesBehind passed (Opens held fault s name tops) (Unread name s.names)
  opened_unread x = record { rest = Unread name s.names; comes = unread x; same = refl }

  pub opened_refused : (bytes : List ℕ) (refusal : Refusal) → HasText held name bytes → IsFault bytes (length s.names) refusal →
      ComesBehind passed (Opens held fault s name tops) (Refused refusal (s.names ++ name ∷ []))
  opened_refused bytes refusal t x = record { rest = Refused refusal (s.names ++ name ∷ []); comes = refused t x; same = refl }

  pub opened_read : (bytes : List ℕ) (forms : Forms) (names : List (List ℕ)) (pending : List Top) (told : Option Held) (earlier : Type 0) (fetched : Fetched) →
      HasText held name bytes → Reads bytes (length s.names) forms → names ≡ s.names ++ name ∷ [] → pending ≡ forms.tops ++ tops → told ≡ held → (earlier → fault) →
      ComesBehind passed (Gathers told earlier (record { names = names; short = s.short }) pending) fetched → ComesBehind passed (Opens held fault s name tops) fetched
  opened_read bytes forms names pending told earlier fetched t r n p h w inner =
      let Held-by : Option Held → Type 0 = λ m. Gathers m earlier (record { names = names; short = s.short }) pending inner.rest in
      let Named-by : List (List ℕ) → Type 0 = λ ns. Gathers held earlier (record { names = ns; short = s.short }) pending inner.rest in
      let Left : List Top → Type 0 = λ ts. Gathers held earlier (with_file s name) ts inner.rest in
      record { rest = inner.rest; comes = read t r (gathers_more w (subst Left p (subst Named-by n (subst Held-by h inner.comes)))); same = inner.same }
