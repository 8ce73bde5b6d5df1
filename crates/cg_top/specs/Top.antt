-- What the top call does.
use Rattle.std.specs.Prelude.{◌≡◌, ◌⊎◌, ℕ, List, [], ◌∷◌, ◌++◌, Option, Some, MatchOption}
use Rattle.cg_io.specs.Asking.{Asking}
use Rattle.cg_io.specs.Held.{Held, appended, written, KeepsOthers}
use Rattle.cg_top.specs.declared.replies.NewFile.{NewFile}
use Rattle.cg_top.specs.declared.replies.Reply.{Reply}
use Rattle.cg_top.specs.Asking.{asked}
use Rattle.cg_top_include.specs.Fetching.{IsUnreadable}
use Rattle.cg_top.specs.Answer.{Answer, with_file}
use Rattle.cg_top.specs.Own.{IsOwnUnreadable}

-- One line behind the other.
abbrev pub text_of : List (List ℕ) → List ℕ
text_of [] = []
text_of (line ∷ lines) = line ++ text_of lines

-- What may be told of files and of a sink together: what the files hold, what was asked for, and what was written.
pub record Told : Type 0 where
  pub held : Option Held
  pub asked : Option (List Asking)
  pub wrote : Option (List ℕ)

abbrev pub told : Option Held → Option (List Asking) → Option (List ℕ) → Told
told held asked wrote = record { held = held; asked = asked; wrote = wrote }

-- The status is that of an answer in which no fault came. Its file was written, its text was put behind what was written before,
-- and just the files that it reads were asked for, in its order and with its limits.
pub record IsAnswered (words : List (List ℕ)) (status : ℕ) (before after : Told) : Type 0 where
  pub reads : List Asking
  pub reply : Reply
  pub answer : Answer words before.held ⊥ reads reply
  pub same_status : status ≡ reply.status
  pub held : after.held ≡ with_file reply before.held
  pub written : after.wrote ≡ appended before.wrote (text_of reply.lines)
  pub asked : after.asked ≡ appended before.asked reads

-- What the files hold and what was written.
pub record HeldAndWrote : Type 0 where
  pub held : Option Held
  pub wrote : Option (List ℕ)

abbrev pub held_and_wrote : Option Held → Option (List ℕ) → HeldAndWrote
held_and_wrote held wrote = record { held = held; wrote = wrote }

-- The write of the reply's file failed: all others are as before.
abbrev pub Loses : Reply → Option Held → Option Held → Type 0
Loses reply before after = (file : NewFile) × (reply.file ≡ Some file) × KeepsOthers before after file.name

-- The status is the reply's and its text was put, or memory ran out, or a fault came.
abbrev pub IsPrinted : Reply → ℕ → Option (List ℕ) → Option (List ℕ) → Type 0 → Type 0
IsPrinted reply status before after fault =
    ((status ≡ reply.status) × (after ≡ appended before (text_of reply.lines))) ⊎ ((status ≡ 4) ⊎ ((status ≡ 3) × fault))

-- The reply was carried out.
pub record IsDone (reply : Reply) (status : ℕ) (before after : HeldAndWrote) : Type 0 where
  pub same_status : status ≡ reply.status
  pub held : after.held ≡ with_file reply before.held
  pub wrote : after.wrote ≡ appended before.wrote (text_of reply.lines)

-- Or memory ran out, or a fault came while text was put or its file was written; and its file was written, or not, or its write
-- failed.
pub record IsCutOff (reply : Reply) (status : ℕ) (before after : HeldAndWrote) (put write : Type 0) : Type 0 where
  pub why : (status ≡ 4) ⊎ ((status ≡ 3) × (put ⊎ (write × Loses reply before.held after.held)))
  pub held : (after.held ≡ before.held) ⊎ ((after.held ≡ with_file reply before.held) ⊎ Loses reply before.held after.held)

abbrev pub IsCarriedOut : Reply → ℕ → HeldAndWrote → HeldAndWrote → Type 0 → Type 0 → Type 0
IsCarriedOut reply status before after put write = IsDone reply status before after ⊎ IsCutOff reply status before after put write

-- The words ask for a description of which a file is lacking or too long, or else their own file is.
abbrev pub IsUnread : List (List ℕ) → Option Held → Type 0
IsUnread words held = MatchOption (asked words) ⊥ (λ it. IsUnreadable it.desc held ⊎ IsOwnUnreadable it.desc it.command held)

-- An answer in which no fault came writes this file.
pub record Writes (words : List (List ℕ)) (held : Option Held) (file : NewFile) : Type 0 where
  pub reads : List Asking
  pub reply : Reply
  pub answer : Answer words held ⊥ reads reply
  pub there : reply.file ≡ Some file

-- The files are as before, or the answer's file was written, or its write failed and all others are as before.
abbrev pub LeavesFiles : List (List ℕ) → Option Held → Option Held → Type 0
LeavesFiles words before after = (after ≡ before) ⊎ ((file : NewFile) × Writes words before file × ((after ≡ written before file.name file.bytes) ⊎ KeepsOthers before after file.name))
