-- Over files that tell what they hold, each description is read in some way where no fault comes.
use Rattle.std.proofs.Common.{◌≡◌, ◌⊎◌, ◌≤◌, ◌<◌, ℕ, ◌+◌, ◌*◌, zero, suc, Bool, true, false, nat_le, ◌&&◌, List, [], ◌∷◌, ◌++◌, map, length, Option, Some, None, Result, Ok, Err, refl, subst, inl, inr, arith, length-append}
use Rattle.std.proofs.lemmas.Bool.Decides.{nat_tests}
use Rattle.std.specs.Prelude.{MatchOption, if◌then◌else◌}
use Rattle.std.specs.FinMap.{get}
use Rattle.cg_base.specs.declared.form.Top.{Top}
use Rattle.cg_base.specs.declared.form.Forms.{Forms}
use Rattle.cg_base.specs.declared.refusal.Refusal.{Refusal}
use Rattle.cg_base.specs.Reading.{Reads, IsFault}
use Rattle.cg_sexp.proofs.Laws.{list_or_fault}
use Rattle.cg_io.specs.Asking.{Asking}
use Rattle.cg_io.specs.Held.{Held}
use Rattle.cg_pmacro.specs.declared.tops.TheConstants.{SHORT_FORMS}
use Rattle.cg_top.specs.declared.asking.Asked.{Asked}
use Rattle.cg_top_include.specs.declared.gathering.Fetched.{Fetched}
use Rattle.cg_top_include.specs.declared.gathering.Fetched.TheVariants.{Read, Refused, Unread}
use Rattle.cg_top_include.specs.declared.gathering.Sources.{Sources}
use Rattle.cg_top_include.specs.declared.including.Include.{Include}
use Rattle.cg_top.specs.declared.replies.Reply.{Reply}
use Rattle.cg_top.specs.Asking.{asked}
use Rattle.cg_top_include.specs.Including.{included, is_short, parted, parted_at, include_at}
use Rattle.cg_top_include.specs.Gathering.{no_sources, HasText, with_file, with_short, may_include, too_many, placed, behind, Opens, unread, refused, read, Gathers, whole, short, file, another}
use Rattle.cg_top_include.specs.Fetching.{askings, files_asked}
use Rattle.cg_top.specs.Own.{own_file, own_asked, IsOwn}
use Rattle.cg_top.specs.Replies.{bad_words, refused as refused_reply, cannot_read, performed_on, RepliesTo}
use Rattle.cg_top.proofs.Loaded.{some_loaded}
use Rattle.cg_top.specs.Answer.{IsBad, IsReply, Answer}
use Rattle.cg_top_include.proofs.ShortForms.{no_fault}

-- where the short forms stand already, no include of them is met
once_at : (there : Bool) (top : Top) (tops : List Top) (x : Include) → ((parted there tops).include ≡ Some x → (there && is_short x.name) ≡ false) →
    (o : Option (List ℕ)) → (parted_at there top tops o (parted there tops)).include ≡ Some x → (there && is_short x.name) ≡ false
once_at there top tops x below None e = below e
once_at there top tops x below (Some name) e = at (there && is_short name) refl e where
  at : (b : Bool) → (there && is_short name) ≡ b →
      (if b then parted there tops else record { before = []; include = Some (include_at top name); behind = tops }).include ≡ Some x → (there && is_short x.name) ≡ false
  at true h e = below e
  at false h e = let same : include_at top name ≡ x = cc in subst (λ (y : Include). (there && is_short y.name) ≡ false) same h

once : (there : Bool) (ts : List Top) (x : Include) → (parted there ts).include ≡ Some x → (there && is_short x.name) ≡ false
once there [] x e = absurd cc
once there (top ∷ tops) x e = once_at there top tops x (once there tops x) (included top.form) e

-- what is left to be done for the short forms
abbrev weight : Bool → ℕ
weight true = 0
weight false = 1

module _ (files : Held) where
  abbrev Opened : Sources → List ℕ → List Top → Type 0
  Opened s n ts = (f : Fetched) × Opens (Some files) ⊥ s n ts f

  abbrev Gathered : Sources → List Top → Type 0
  Gathered s ts = (f : Fetched) × Gathers (Some files) ⊥ s ts f

  -- A file is lacking, or too long, or has a text, which has a fault or forms that are gone on with.
  opened_by : (s : Sources) (n : List ℕ) (ts : List Top) → ((left : List Top) → Gathered (with_file s n) left) → Opened s n ts
  opened_by s n ts next = at (get files n) refl where
    judged : (bytes : List ℕ) → HasText (Some files) n bytes → ((forms : Forms) × Reads bytes (length s.names) forms) ⊎ ((r : Refusal) × IsFault bytes (length s.names) r) → Opened s n ts
    judged bytes t (inl (forms, r)) = let (f, g) = next (forms.tops ++ ts) in (f, read t r g)
    judged bytes t (inr (r, x)) = (Refused r (s.names ++ n ∷ []), refused t x)

    sized : (bytes : List ℕ) → get files n ≡ Some bytes → (b : Bool) → nat_le (length bytes) 4194304 ≡ b → Opened s n ts
    sized bytes e true h =
        let within : length bytes ≤ 4194304 = grind (arith, nat_tests) in judged bytes (record { there = e; within = within }) (list_or_fault bytes (length s.names))
    sized bytes e false h = let long : 4194304 < length bytes = grind (arith, nat_tests) in (Unread n s.names, unread (inl (inr (bytes, e, long))))

    at : (o : Option (List ℕ)) → get files n ≡ o → Opened s n ts
    at None e = (Unread n s.names, unread (inl (inl e)))
    at (Some bytes) e = sized bytes e (nat_le (length bytes) 4194304) refl

  -- Forms have no include, or the short forms or a file in its place, or it is one too many.
  gathered_by : (s : Sources) (ts : List Top) → ((n : List ℕ) (left : List Top) → may_include s ≡ true → Opened s n left) →
      ((left : List Top) → s.short ≡ false → Gathered (with_short s) left) → Gathered s ts
  gathered_by s ts open_next short_next = at (parted s.short ts).include refl where
    shorts : (x : Include) → (parted s.short ts).include ≡ Some x → is_short x.name ≡ true → (b : Bool) → s.short ≡ b →
        ((forms : Forms) × Reads SHORT_FORMS.now 0 forms) ⊎ ((r : Refusal) × IsFault SHORT_FORMS.now 0 r) → Gathered s ts
    shorts x e i true b forms = let never : (s.short && is_short x.name) ≡ false = once s.short ts x e in absurd cc
    shorts x e i false b (inl (forms, r)) =
        let (f, g) = short_next (map (placed x) forms.tops ++ (parted s.short ts).behind) b in (behind (parted s.short ts).before f, short e i r g refl)
    shorts x e i false b (inr (r, y)) = absurd (no_fault r y)

    filed : (x : Include) → (parted s.short ts).include ≡ Some x → is_short x.name ≡ false → (b : Bool) → may_include s ≡ b → Gathered s ts
    filed x e i true m = let (f, o) = open_next x.name (parted s.short ts).behind m in (behind (parted s.short ts).before f, file e i m o refl)
    filed x e i false m = (Refused (too_many x) s.names, another e i m refl)

    named : (x : Include) → (parted s.short ts).include ≡ Some x → (b : Bool) → is_short x.name ≡ b → Gathered s ts
    named x e true i = shorts x e i s.short refl (list_or_fault SHORT_FORMS.now 0)
    named x e false i = filed x e i (may_include s) refl

    at : (o : Option Include) → (parted s.short ts).include ≡ o → Gathered s ts
    at None e = (Read (record { tops = (parted s.short ts).before }) s.names, whole e refl)
    at (Some x) e = named x e (is_short x.name) refl

  none_left : (len : ℕ) (b : Bool) → len ≤ 65 → 131 + weight b ≤ 0 + 2 * len → ⊥
  none_left len true few h = omega arith
  none_left len false few h = omega arith

  one_more : (s : Sources) (n : List ℕ) → length (with_file s n).names ≡ length s.names + 1
  one_more s n = length-append s.names (n ∷ [])

  few_more : (s : Sources) (n : List ℕ) → may_include s ≡ true → length (with_file s n).names ≤ 65
  few_more s n m = let few : length s.names ≤ 64 = grind (arith, nat_tests) in let more = one_more s n in omega arith

  file_left : (k : ℕ) (s : Sources) (n : List ℕ) → 131 + weight s.short ≤ suc k + 2 * length s.names → 131 + weight s.short ≤ k + 2 * length (with_file s n).names
  file_left k s n h = let more = one_more s n in omega arith

  short_left : (k : ℕ) (s : Sources) → s.short ≡ false → 131 + weight s.short ≤ suc k + 2 * length s.names → 131 + weight true ≤ k + 2 * length s.names
  short_left k s b h = let before : 131 + weight false ≤ suc k + 2 * length s.names = subst (λ (c : Bool). 131 + weight c ≤ suc k + 2 * length s.names) b h in omega arith

  -- by the number of steps that may be left
  gathered : (k : ℕ) (s : Sources) (ts : List Top) → length s.names ≤ 65 → 131 + weight s.short ≤ k + 2 * length s.names → Gathered s ts
  gathered zero s ts few h = absurd (none_left (length s.names) s.short few h)
  gathered (suc k) s ts few h =
      gathered_by s ts
      (λ n left m. opened_by s n left (λ ts. gathered k (with_file s n) ts (few_more s n m) (file_left k s n h)))
      (λ left b. gathered k (with_short s) left few (short_left k s b h))

  description : (desc : List ℕ) → Opened no_sources desc []
  description desc = opened_by no_sources desc [] (λ ts. gathered 130 (with_file no_sources desc) ts (omega arith) (omega arith))

-- A command's own file is given in some way.
some_own : (files : Held) (file : Option Asking) → (own : Result (List ℕ) (List ℕ)) × IsOwn file (Some files) ⊥ own
some_own files None = (Ok [], refl)
some_own files (Some asking) = at (get files asking.0) refl where
  sized : (bytes : List ℕ) → get files asking.0 ≡ Some bytes → (b : Bool) → nat_le (length bytes) asking.1 ≡ b → (own : Result (List ℕ) (List ℕ)) × IsOwn (Some asking) (Some files) ⊥ own
  sized bytes e true h = let within : length bytes ≤ asking.1 = grind (arith, nat_tests) in (Ok bytes, record { there = e; within = within })
  sized bytes e false h = let long : asking.1 < length bytes = grind (arith, nat_tests) in (Err asking.0, (refl, inl (inr (bytes, e, long))))

  at : (o : Option (List ℕ)) → get files asking.0 ≡ o → (own : Result (List ℕ) (List ℕ)) × IsOwn (Some asking) (Some files) ⊥ own
  at None e = (Err asking.0, (refl, inl (inl e)))
  at (Some bytes) e = sized bytes e (nat_le (length bytes) asking.1) refl

-- Whatever was read is replied to.
some_reply : (it : Asked) (fetched : Fetched) (own : Result (List ℕ) (List ℕ)) → (reply : Reply) × RepliesTo it fetched own reply
some_reply it (Read forms names) (Ok own) = let (x, loads) = some_loaded forms it.mach in (performed_on it names own x, record { loaded = x; loads = loads; replied = refl })
some_reply it (Read forms names) (Err name) = (cannot_read name, refl)
some_reply it (Refused refusal names) own = (refused_reply it.desc names refusal, refl)
some_reply it (Unread name names) own = (cannot_read name, refl)

-- Over files that tell what they hold, words have an answer in which no fault comes.
pub answered_somehow : (words : List (List ℕ)) (files : Held) → (reads : List Asking) × (reply : Reply) × Answer words (Some files) ⊥ reads reply
answered_somehow words files = at (asked words) where
  at : (o : Option Asked) → (reads : List Asking) × (reply : Reply) × MatchOption o (IsBad reads reply) (λ it. IsReply it (Some files) ⊥ reads reply)
  at None = ([], bad_words, record { nothing = refl; replied = refl })
  at (Some it) =
      let (f, o) = description files it.desc in
      let (own, given) = some_own files (own_file it.command f) in
      let (reply, replied) = some_reply it f own in
      (askings (files_asked f) ++ own_asked (own_file it.command f), reply, record { fetched = f; reading = o; own = own; given = given; names = refl; replied = replied })
