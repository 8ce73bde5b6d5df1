-- What the words of a command are answered, where the files hold this, and what is read for it.
use Rattle.std.specs.Prelude.{◌≡◌, ℕ, List, [], ◌++◌, Option, Some, None, Result, MatchOption}
use Rattle.cg_io.specs.Asking.{Asking}
use Rattle.cg_io.specs.Held.{Held, appended, written}
use Rattle.cg_top.specs.declared.asking.Asked.{Asked}
use Rattle.cg_top_include.specs.declared.gathering.Fetched.{Fetched}
use Rattle.cg_top.specs.declared.replies.Reply.{Reply}
use Rattle.cg_top.specs.Asking.{asked}
use Rattle.cg_top_include.specs.Fetching.{IsFetched, askings, files_asked}
use Rattle.cg_top.specs.Own.{own_file, own_asked, IsOwn}
use Rattle.cg_top.specs.Replies.{bad_words, RepliesTo}

-- The reply is that to what reading the description and then the command's own file gives, and these files are what is read.
-- A fault, where one came, may stand in the place of reading.
pub record IsReply (asked : Asked) (held : Option Held) (fault : Type 0) (reads : List Asking) (reply : Reply) : Type 0 where
  pub fetched : Fetched
  pub reading : IsFetched asked.desc held fault fetched
  pub own : Result (List ℕ) (List ℕ)
  pub given : IsOwn (own_file asked.command fetched) held fault own
  pub names : reads ≡ askings (files_asked fetched) ++ own_asked (own_file asked.command fetched)
  pub replied : RepliesTo asked fetched own reply

-- Words that ask nothing are bad words, for which nothing is read.
pub record IsBad (reads : List Asking) (reply : Reply) : Type 0 where
  pub nothing : reads ≡ []
  pub replied : reply ≡ bad_words

-- The names and limits that are read, in order, and the reply.
abbrev pub Answer : List (List ℕ) → Option Held → Type 0 → List Asking → Reply → Type 0
Answer words held fault reads reply = MatchOption (asked words) (IsBad reads reply) (λ it. IsReply it held fault reads reply)

-- The reply is that of such an answer, and just what that reads was asked for.
pub record IsReplyTo (words : List (List ℕ)) (held : Option Held) (fault : Type 0) (before after : Option (List Asking)) (reply : Reply) : Type 0 where
  pub reads : List Asking
  pub answer : Answer words held fault reads reply
  pub asked : after ≡ appended before reads

-- The files once the reply's own file is written, where it has one.
abbrev pub with_file : Reply → Option Held → Option Held
with_file r held = elim r.file [ None ↦ held | Some f ↦ written held f.name f.bytes ]
