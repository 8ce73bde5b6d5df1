-- What was asked for, as a description's files are read.
use Rattle.std.proofs.Common.{◌≡◌, ℕ, true, false, List, [], ◌∷◌, ◌++◌, map, length, take, Option, Some, None, refl, sym, ap, subst, ◌∙◌, append_assoc, append-nil}
use Rattle.std.proofs.lemmas.List.{map-append}
use Rattle.std.proofs.Math.Seq.{take-append_seam}
use Rattle.cg_base.specs.declared.form.Top.{Top}
use Rattle.cg_base.specs.declared.form.Forms.{Forms}
use Rattle.cg_base.specs.Reading.{Reads}
use Rattle.cg_io.specs.Asking.{Asking}
use Rattle.cg_io.specs.Held.{Held, appended, AppendsFront}
use Rattle.cg_top_include.specs.declared.gathering.Fetched.{Fetched}
use Rattle.cg_top_include.specs.declared.gathering.Fetched.TheVariants.{Read, Refused, Unread}
use Rattle.cg_top_include.specs.declared.gathering.Sources.{Sources}
use Rattle.cg_top_include.specs.declared.including.Include.{Include}
use Rattle.cg_top_include.specs.Including.{is_short, parted}
use Rattle.cg_top_include.specs.Gathering.{HasText, with_short, may_include, placed, behind, Opens, unread, refused, read, Gathers, whole, short, file, another, IsShortFormsAt, no_sources}
use Rattle.cg_top_include.specs.Fetching.{IsFetched, asking, askings, files_asked, HasAsked, HasAskedFront, AsksOn, AsksFront}
use Rattle.cg_top_include.proofs.OneReading.{opened_inside, short_inside, file_inside}

pub nothing_asked : (told : Option (List Asking)) → told ≡ appended told []
nothing_asked None = refl
nothing_asked (Some list) = ap Some (sym (append-nil list))

-- one file more was asked for
pub asked_more : (before old new : Option (List Asking)) (names : List (List ℕ)) (name : List ℕ) → HasAsked before names old → new ≡ appended old (asking name ∷ []) → HasAsked before (names ++ name ∷ []) new
asked_more before old new names name e f = f ∙ ap (λ (o : Option (List Asking)). appended o (asking name ∷ [])) e ∙ both before where
  both : (o : Option (List Asking)) → appended (appended o (askings names)) (asking name ∷ []) ≡ appended o (askings (names ++ name ∷ []))
  both None = refl
  both (Some list) = ap Some (append_assoc list (askings names) (asking name ∷ []) ∙ ap (λ (l : List Asking). list ++ l) (sym (map-append asking names (name ∷ []))))

-- of more names, these are a front
front_by : (before now : Option (List Asking)) (xs ys rest : List (List ℕ)) → HasAsked before xs now → ys ≡ xs ++ rest → AppendsFront before now (askings ys)
front_by before now xs ys rest e f =
    let whole : askings ys ≡ askings xs ++ askings rest = ap askings f ∙ map-append asking xs rest in
    let front : take (length (askings xs)) (askings ys) ≡ askings xs = ap (take (length (askings xs))) whole ∙ take-append_seam (askings xs) (askings rest) in
    (length (askings xs), e ∙ ap (appended before) (sym front))

asked_behind : (tops : List Top) (f : Fetched) → files_asked (behind tops f) ≡ files_asked f
asked_behind tops (Read forms names) = refl
asked_behind tops (Refused refusal names) = refl
asked_behind tops (Unread name names) = refl

-- The files that were read are the first that a reading asks for, and a file that is opened is the next.
module _ {held : Option Held} {fault : Type 0} where
  mutual
    opens_begin : {s : Sources} {n : List ℕ} {ts : List Top} {f : Fetched} → Opens held fault s n ts f → (rest : List (List ℕ)) × (files_asked f ≡ (s.names ++ n ∷ []) ++ rest)
    opens_begin (unread {sources = s} {name = n} x) = ([], sym (append-nil (s.names ++ n ∷ [])))
    opens_begin (refused {sources = s} {name = n} t x) = ([], sym (append-nil (s.names ++ n ∷ [])))
    opens_begin (read t r g) = gathers_begin g

    gathers_begin : {s : Sources} {ts : List Top} {f : Fetched} → Gathers held fault s ts f → (rest : List (List ℕ)) × (files_asked f ≡ s.names ++ rest)
    gathers_begin (whole {sources = s} e q) = ([], ap files_asked q ∙ sym (append-nil s.names))
    gathers_begin (short {sources = s} {tops = ts} {rest = r} e i x g q) =
        let (more, same) = gathers_begin g in (more, ap files_asked q ∙ asked_behind (parted s.short ts).before r ∙ same)
    gathers_begin (file {sources = s} {tops = ts} {include = x} {rest = r} e i m o q) =
        let (more, same) = opens_begin o in (x.name ∷ more, ap files_asked q ∙ asked_behind (parted s.short ts).before r ∙ same ∙ append_assoc s.names (x.name ∷ []) more)
    gathers_begin (another {sources = s} e i m q) = ([], ap files_asked q ∙ sym (append-nil s.names))

  -- where a file was asked for and no more
  pub front_opened : (s : Sources) (n : List ℕ) (ts : List Top) (old new : Option (List Asking)) → new ≡ appended old (asking n ∷ []) → AsksFront s.names old new (Opens held fault s n ts)
  front_opened s n ts old new e before a f x =
      let (rest, same) = opens_begin x in front_by before new (s.names ++ n ∷ []) (files_asked f) rest (asked_more before old new s.names n a e) same

  -- where nothing more was asked for
  pub front_gathered : (s : Sources) (ts : List Top) (old new : Option (List Asking)) → new ≡ old → AsksFront s.names old new (Gathers held fault s ts)
  front_gathered s ts old new e before a f x =
      let (rest, same) = gathers_begin x in front_by before new s.names (files_asked f) rest (e ∙ a) same

-- where the forms of a file that was read are gone on with
module _ (s : Sources) (name : List ℕ) (names : List (List ℕ)) (old mid new : Option (List Asking)) where
  pub asked_read : (fetched : Fetched) → names ≡ s.names ++ name ∷ [] → mid ≡ appended old (asking name ∷ []) → AsksOn names mid new fetched → AsksOn s.names old new fetched
  asked_read fetched n e inner before a = inner before (subst (λ (ns : List (List ℕ)). HasAsked before ns mid) (sym n) (asked_more before old mid s.names name a e))

  pub front_read : (held told : Option Held) (tops pending : List Top) (bytes : List ℕ) (forms : Forms) → HasText held name bytes → Reads bytes (length s.names) forms →
      names ≡ s.names ++ name ∷ [] → pending ≡ forms.tops ++ tops → told ≡ held → mid ≡ appended old (asking name ∷ []) →
      ((files : Held) → told ≡ Some files → AsksFront names mid new (Gathers (Some files) ⊥ (record { names = names; short = s.short }) pending)) →
      (files : Held) → held ≡ Some files → AsksFront s.names old new (Opens (Some files) ⊥ s name tops)
  front_read held told tops pending bytes forms t r n p w e inner files h before a f x =
      let text : HasText (Some files) name bytes = subst (λ (o : Option Held). HasText o name bytes) h t in
      let Named-by : List (List ℕ) → Type 0 = λ ns. Gathers (Some files) ⊥ (record { names = ns; short = s.short }) (forms.tops ++ tops) f in
      let Left : List Top → Type 0 = λ ts. Gathers (Some files) ⊥ (record { names = names; short = s.short }) ts f in
      let inside : Left pending = subst Left (sym p) (subst Named-by (sym n) (opened_inside text r x)) in
      inner files (w ∙ h) before (subst (λ (ns : List (List ℕ)). HasAsked before ns mid) (sym n) (asked_more before old mid s.names name a e)) f inside

module _ (s : Sources) (tops left : List Top) (x : Include) (held : Option Held) (old new : Option (List Asking)) where
  rest_front : (before : Option (List Asking)) (rest f : Fetched) → f ≡ behind (parted s.short tops).before rest → HasAskedFront before rest new → HasAskedFront before f new
  rest_front before rest f p front =
      subst (λ (ns : List (List ℕ)). AppendsFront before new (askings ns)) (sym (ap files_asked p ∙ asked_behind (parted s.short tops).before rest)) front

  pub front_short : (shorts : List Top) → (parted s.short tops).include ≡ Some x → left ≡ shorts ++ (parted s.short tops).behind → is_short x.name ≡ true → IsShortFormsAt x shorts →
      ((files : Held) → held ≡ Some files → AsksFront s.names old new (Gathers (Some files) ⊥ (with_short s) left)) →
      (files : Held) → held ≡ Some files → AsksFront s.names old new (Gathers (Some files) ⊥ s tops)
  front_short shorts e l i at inner files h before a f g =
      let (rest, inside, p) = short_inside e i at.read g in
      let all : left ≡ map (placed x) at.forms.tops ++ (parted s.short tops).behind = l ∙ ap (λ (ts : List Top). ts ++ (parted s.short tops).behind) at.same in
      rest_front before rest f p (inner files h before a rest (subst (λ (ts : List Top). Gathers (Some files) ⊥ (with_short s) ts rest) (sym all) inside))

  pub front_file : (parted s.short tops).include ≡ Some x → left ≡ (parted s.short tops).behind → is_short x.name ≡ false → may_include s ≡ true →
      ((files : Held) → held ≡ Some files → AsksFront s.names old new (Opens (Some files) ⊥ s x.name left)) →
      (files : Held) → held ≡ Some files → AsksFront s.names old new (Gathers (Some files) ⊥ s tops)
  front_file e l i m inner files h before a f g =
      let (rest, inside, p) = file_inside e i m g in
      rest_front before rest f p (inner files h before a rest (subst (λ (ts : List Top). Opens (Some files) ⊥ s x.name ts rest) (sym l) inside))

-- where a description's reading begins, nothing of it was asked for
module _ (old new : Option (List Asking)) (sources : Sources) (begun : sources ≡ no_sources) where
  none_yet : HasAsked old sources.names old
  none_yet = subst (λ (s : Sources). HasAsked old s.names old) (sym begun) (nothing_asked old)

  pub asked_first : (fetched : Fetched) → AsksOn sources.names old new fetched → HasAsked old (files_asked fetched) new
  asked_first fetched inner = inner old none_yet

  pub front_first : (desc : List ℕ) (pending : List Top) (held : Option Held) → pending ≡ [] →
      ((files : Held) → held ≡ Some files → AsksFront sources.names old new (Opens (Some files) ⊥ sources desc pending)) →
      (files : Held) (fetched : Fetched) → held ≡ Some files → IsFetched desc (Some files) ⊥ fetched → HasAskedFront old fetched new
  front_first desc pending held p inner files fetched h x =
      let Sourced : Sources → Type 0 = λ s. Opens (Some files) ⊥ s desc pending fetched in
      let Left : List Top → Type 0 = λ ts. Opens (Some files) ⊥ no_sources desc ts fetched in
      inner files h old none_yet fetched (subst Sourced (sym begun) (subst Left (sym p) x))
