-- How the forms of a description's files come together. A file's text is read whole, and then its includes in the order in
-- which they stand, each with its own: the forms of an include's file come in its place.
use Rattle.std.specs.Prelude.{◌≡◌, ◌⊎◌, ℕ, ◌≤◌, Bool, true, false, nat_le, List, [], ◌∷◌, ◌++◌, map, length, Option, Some, None}
use Rattle.cg_base.specs.declared.form.Top.{Top}
use Rattle.cg_base.specs.declared.form.Forms.{Forms}
use Rattle.cg_base.specs.declared.refusal.Refusal.{Refusal}
use Rattle.cg_base.specs.Reading.{Reads, IsFault}
use Rattle.cg_base.specs.Refusing.{refusal_at}
use Rattle.cg_io.specs.Held.{Held, HasBytes, Lacks, HasMore}
use Rattle.cg_pmacro.specs.declared.tops.TheConstants.{SHORT_FORMS}
use Rattle.cg_top_include.specs.declared.gathering.Fetched.{Fetched}
use Rattle.cg_top_include.specs.declared.gathering.Fetched.TheVariants.{Read, Refused, Unread}
use Rattle.cg_top_include.specs.declared.gathering.Sources.{Sources}
use Rattle.cg_top_include.specs.declared.including.Include.{Include}
use Rattle.cg_top_include.specs.Including.{is_short, parted}

-- A description's file has at most 4 MiB.
abbrev pub text_limit : ℕ
text_limit = 4194304

-- The files are told, and this one isn't among them or is too long.
abbrev pub IsLacking : Option Held → List ℕ → Type 0
IsLacking held name = Lacks held name ⊎ HasMore held name text_limit

-- The file has these bytes, where files are told, and they are not too many.
pub record HasText (held : Option Held) (name bytes : List ℕ) : Type 0 where
  pub there : HasBytes held name bytes
  pub within : length bytes ≤ text_limit

-- No file was read yet.
abbrev pub no_sources : Sources
no_sources = record { names = []; short = false }

-- One more file was read. A file's number is how many were read before it.
abbrev pub with_file : Sources → List ℕ → Sources
with_file sources name = record { names = sources.names ++ name ∷ []; short = sources.short }

-- The short forms stand among the forms.
abbrev pub with_short : Sources → Sources
with_short sources = record { names = sources.names; short = true }

-- One more include may be read: the description itself and at most 64 includes.
abbrev pub may_include : Sources → Bool
may_include sources = nat_le (length sources.names) 64

-- The 65th include is refused with its name.
abbrev pub too_many : Include → Refusal
too_many include = refusal_at include.file include.line (106, include.name)

-- The short forms have the file and line of their include.
abbrev pub placed : Include → Top → Top
placed include top = record { form = top.form; file = include.file; line = include.line }

-- What is fetched, behind forms that stand before it.
abbrev pub behind : List Top → Fetched → Fetched
behind tops (Read forms names) = Read (record { tops = tops ++ forms.tops }) names
behind tops (Refused refusal names) = Refused refusal names
behind tops (Unread name names) = Unread name names

mutual
  -- What reading a file gives, whose forms come in front of these. It can't be read where it is lacking or a fault came.
  pub data Opens (held : Option Held) (fault : Type 0) : Sources → List ℕ → List Top → Fetched → Type 0 where
    unread : {sources : Sources} {name : List ℕ} {tops : List Top} → IsLacking held name ⊎ fault → Opens held fault sources name tops (Unread name sources.names)
    refused : {sources : Sources} {name bytes : List ℕ} {tops : List Top} {refusal : Refusal} → HasText held name bytes →
        IsFault bytes (length sources.names) refusal → Opens held fault sources name tops (Refused refusal (sources.names ++ name ∷ []))
    read : {sources : Sources} {name bytes : List ℕ} {tops : List Top} {forms : Forms} {fetched : Fetched} → HasText held name bytes →
        Reads bytes (length sources.names) forms → Gathers held fault (with_file sources name) (forms.tops ++ tops) fetched →
        Opens held fault sources name tops fetched

  -- What these forms give, once their includes are read.
  pub data Gathers (held : Option Held) (fault : Type 0) : Sources → List Top → Fetched → Type 0 where
    whole : {sources : Sources} {tops : List Top} {fetched : Fetched} → (parted sources.short tops).include ≡ None →
        fetched ≡ Read (record { tops = (parted sources.short tops).before }) sources.names → Gathers held fault sources tops fetched
    short : {sources : Sources} {tops : List Top} {include : Include} {forms : Forms} {rest fetched : Fetched} →
        (parted sources.short tops).include ≡ Some include → is_short include.name ≡ true →
        Reads SHORT_FORMS.now 0 forms → Gathers held fault (with_short sources) (map (placed include) forms.tops ++ (parted sources.short tops).behind) rest →
        fetched ≡ behind (parted sources.short tops).before rest → Gathers held fault sources tops fetched
    file : {sources : Sources} {tops : List Top} {include : Include} {rest fetched : Fetched} →
        (parted sources.short tops).include ≡ Some include → is_short include.name ≡ false → may_include sources ≡ true →
        Opens held fault sources include.name (parted sources.short tops).behind rest →
        fetched ≡ behind (parted sources.short tops).before rest → Gathers held fault sources tops fetched
    another : {sources : Sources} {tops : List Top} {include : Include} {fetched : Fetched} →
        (parted sources.short tops).include ≡ Some include → is_short include.name ≡ false → may_include sources ≡ false →
        fetched ≡ Refused (too_many include) sources.names → Gathers held fault sources tops fetched

-- What comes of the forms behind these is what such a reading gives.
pub record ComesBehind (tops : List Top) (Comes : Fetched → Type 0) (fetched : Fetched) : Type 0 where
  pub rest : Fetched
  pub comes : Comes rest
  pub same : fetched ≡ behind tops rest

-- The forms are the short forms in the place of an include.
pub record IsShortFormsAt (include : Include) (tops : List Top) : Type 0 where
  pub forms : Forms
  pub read : Reads SHORT_FORMS.now 0 forms
  pub same : tops ≡ map (placed include) forms.tops
