-- What is answered where no fault came, and which cause a file that can't be read has.
use Rattle.std.proofs.Common.{◌≡◌, ◌≢◌, ◌⊎◌, ℕ, List, [], ◌++◌, Option, Some, None, Result, Ok, Err, refl, sym, ap, subst, ◌∙◌, inl, inr}
use Rattle.std.specs.Prelude.{MatchOption}
use Rattle.cg_base.specs.declared.form.Forms.{Forms}
use Rattle.cg_base.specs.declared.refusal.Refusal.{Refusal}
use Rattle.cg_io.specs.Asking.{Asking}
use Rattle.cg_io.specs.Held.{Held}
use Rattle.cg_top.specs.declared.asking.Asked.{Asked}
use Rattle.cg_top.specs.declared.asking.Command.{Command}
use Rattle.cg_top.specs.declared.asking.Assembly.{Assembly}
use Rattle.cg_top.specs.declared.asking.Command.TheVariants.{Check, Decode, Assemble, ListImage}
use Rattle.cg_top_include.specs.declared.gathering.Fetched.{Fetched}
use Rattle.cg_top_include.specs.declared.gathering.Fetched.TheVariants.{Read, Refused, Unread}
use Rattle.cg_model_source.specs.Imaging.{SourceRefusal, image}
use Rattle.cg_model_source.specs.Sourcing.{only_set}
use Rattle.cg_model.specs.declared.machine.Machine.{Machine}
use Rattle.cg_top.specs.declared.replies.NewFile.{NewFile}
use Rattle.cg_top.specs.declared.replies.Reply.{Reply}
use Rattle.cg_top.specs.Asking.{asked}
use Rattle.cg_top_include.specs.Gathering.{Opens, no_sources}
use Rattle.cg_top_include.specs.Fetching.{IsUnreadable, askings, files_asked}
use Rattle.cg_top.specs.Own.{own_asking, own_file, own_asked, IsOwn, IsOwnUnreadable}
use Rattle.cg_top.specs.Replies.{bad_words, refused, cannot_read, assembled, performed, performed_on, RepliesTo}
use Rattle.cg_top.specs.Answer.{IsReply, IsBad, Answer}
use Rattle.cg_top.specs.Top.{IsUnread}
use Rattle.cg_top.proofs.Loaded.{one_loaded}
use Rattle.cg_top.proofs.OwnLemmas.{own_known, one_text, out_text, none_out}
use Rattle.cg_top_include.proofs.OneReading.{IsUnreadAt, opens_known, opens_told, one_opened}

abbrev status_of : Reply → ℕ
status_of r = r.status

abbrev file_of : Reply → Option NewFile
file_of r = r.file

none_is_some : {A : Type 0} {x : A} → (let none : Option A = None in none) ≡ Some x → ⊥
none_is_some e = cc

err_is_ok : {A E : Type 0} {x : A} {e : E} → (let err : Result A E = Err e in err) ≡ Ok x → ⊥
err_is_ok h = cc

on_right : {A B C : Type 0} → B ⊎ C → (A ⊎ B) ⊎ C
on_right (inl b) = inl (inr b)
on_right (inr c) = inr c

-- The command's own file can't be read.
abbrev OwnUnread : Command → Fetched → Result (List ℕ) (List ℕ) → Type 0
OwnUnread command fetched own = (x : Asking) × (own_file command fetched ≡ Some x) × (own ≡ Err x.0)

-- a file that can't be read makes the status 3, and nothing is written
abbrev SaysUnread : Reply → Type 0
SaysUnread r = (r.status ≡ 3) × (r.file ≡ None)

says_so : (r : Reply) (name : List ℕ) → r ≡ cannot_read name → SaysUnread r
says_so r name e = (ap status_of e, ap file_of e)

unread_status : (it : Asked) (fetched : Fetched) (own : Result (List ℕ) (List ℕ)) (r : Reply) → RepliesTo it fetched own r → IsUnreadAt fetched → SaysUnread r
unread_status it fetched own r replies (name, names, e) = says_so r name (subst (λ (f : Fetched). RepliesTo it f own r) e replies)

own_status : (it : Asked) (fetched : Fetched) (own : Result (List ℕ) (List ℕ)) (r : Reply) → RepliesTo it fetched own r → OwnUnread it.command fetched own → SaysUnread r
own_status it (Read forms names) own r replies (x, there, e) = says_so r x.0 (subst (λ o. RepliesTo it (Read forms names) o r) e replies)
own_status it (Refused refusal names) own r replies (x, there, e) = absurd (none_is_some there)
own_status it (Unread unread names) own r replies (x, there, e) = absurd (none_is_some there)

-- and nothing else does
assembled_status : (it : Assembly) (r : Result (List ℕ) SourceRefusal) → (assembled it r).status ≢ 3
assembled_status it (Ok bytes) e = cc
assembled_status it (Err refusal) e = cc

performed_status : (it : Asked) (names : List (List ℕ)) (own : List ℕ) (r : Result Machine Refusal) → (performed_on it names own r).status ≢ 3
performed_status it names own (Ok machine) e = command it.command e where
  command : (c : Command) → (performed c machine own).status ≡ 3 → ⊥
  command Check e = cc
  command (Decode bytes) e = cc
  command (Assemble x) e = assembled_status x (image (only_set machine) x.base own) e
  command (ListImage x) e = cc
performed_status it names own (Err refusal) e = cc

-- what can't be read, where the status is 3
given_unread : (it : Asked) (forms : Forms) (names : List (List ℕ)) (own : Result (List ℕ) (List ℕ)) (held : Option Held) (fault : Type 0) (r : Reply) → RepliesTo it (Read forms names) own r → IsOwn (own_asking it.command) held fault own → r.status ≡ 3 →
    OwnUnread it.command (Read forms names) own
given_unread it forms names (Ok bytes) held fault r replies given e = absurd (performed_status it names bytes replies.loaded (sym (ap status_of replies.replied) ∙ e))
given_unread it forms names (Err name) held fault r replies given e = named (own_asking it.command) refl given where
  named : (o : Option Asking) → own_asking it.command ≡ o → IsOwn o held fault (Err name) → OwnUnread it.command (Read forms names) (Err name)
  named None is x = absurd (err_is_ok x)
  named (Some other) is x = (other, is, ap Err x.0)

status_unread : (it : Asked) (fetched : Fetched) (own : Result (List ℕ) (List ℕ)) (held : Option Held) (fault : Type 0) (r : Reply) → RepliesTo it fetched own r → IsOwn (own_file it.command fetched) held fault own → r.status ≡ 3 → IsUnreadAt fetched ⊎ OwnUnread it.command fetched own
status_unread it (Read forms names) own held fault r replies given e = inr (given_unread it forms names own held fault r replies given e)
status_unread it (Refused refusal names) own held fault r replies given e = let other : (refused it.desc names refusal).status ≡ 3 = sym (ap status_of replies) ∙ e in absurd cc
status_unread it (Unread name names) own held fault r replies given e = inl (name, names, refl)

-- one reply
one_reply : (it : Asked) (fetched : Fetched) (own : Result (List ℕ) (List ℕ)) (a b : Reply) → RepliesTo it fetched own a → RepliesTo it fetched own b → a ≡ b
one_reply it (Read forms names) (Ok own) a b p q =
    p.replied ∙ ap (performed_on it names own) (one_loaded forms it.mach p.loaded q.loaded p.loads q.loads) ∙ sym q.replied
one_reply it (Read forms names) (Err name) a b p q = p ∙ sym q
one_reply it (Refused refusal names) own a b p q = p ∙ sym q
one_reply it (Unread name names) own a b p q = p ∙ sym q

module _ {fault : Type 0} (words : List (List ℕ)) (held : Option Held) (reads : List Asking) (reply : Reply) where
  with_own : (it : Asked) (x : IsReply it held fault reads reply) → Opens held ⊥ no_sources it.desc [] x.fetched → IsOwn (own_file it.command x.fetched) held ⊥ x.own ⊎ (fault × OwnUnread it.command x.fetched x.own) →
      IsReply it held ⊥ reads reply ⊎ (fault × SaysUnread reply)
  with_own it x known (inl own) = inl (record { fetched = x.fetched; reading = known; own = x.own; given = own; names = x.names; replied = x.replied })
  with_own it x known (inr (came, u)) = inr (came, own_status it x.fetched x.own reply x.replied u)

  settled : Answer words held fault reads reply → Answer words held ⊥ reads reply ⊎ (fault × SaysUnread reply)
  settled p = at (asked words) p where
    by : (it : Asked) (x : IsReply it held fault reads reply) → Opens held ⊥ no_sources it.desc [] x.fetched ⊎ (fault × IsUnreadAt x.fetched) → IsReply it held ⊥ reads reply ⊎ (fault × SaysUnread reply)
    by it x (inl known) = with_own it x known (own_known held fault it.command x.fetched x.own x.given)
    by it x (inr (came, u)) = inr (came, unread_status it x.fetched x.own reply x.replied u)

    at : (o : Option Asked) → MatchOption o (IsBad reads reply) (λ it. IsReply it held fault reads reply) →
        MatchOption o (IsBad reads reply) (λ it. IsReply it held ⊥ reads reply) ⊎ (fault × SaysUnread reply)
    at None p = inl p
    at (Some it) p = by it p (opens_known p.reading)

  -- Status 3 of an answer has its cause.
  own_cause : (it : Asked) (x : IsReply it held fault reads reply) → Opens held ⊥ no_sources it.desc [] x.fetched → OwnUnread it.command x.fetched x.own → IsOwnUnreadable it.desc it.command held ⊎ fault
  own_cause it x known (file, there, e) = by (subst (λ o. IsOwn o held fault (Err file.0)) there (subst (λ o. IsOwn (own_file it.command x.fetched) held fault o) e x.given)) where
    by : IsOwn (Some file) held fault (Err file.0) → IsOwnUnreadable it.desc it.command held ⊎ fault
    by (same, inl out) = inl (record { fetched = x.fetched; reading = known; asking = file; there = there; out = out })
    by (same, inr came) = inr came

  pub unread_cause : Answer words held fault reads reply → reply.status ≡ 3 → IsUnread words held ⊎ fault
  unread_cause p e = at (asked words) p where
    by : (it : Asked) (x : IsReply it held fault reads reply) → IsUnreadAt x.fetched ⊎ OwnUnread it.command x.fetched x.own → Opens held ⊥ no_sources it.desc [] x.fetched ⊎ (fault × IsUnreadAt x.fetched) →
        (IsUnreadable it.desc held ⊎ IsOwnUnreadable it.desc it.command held) ⊎ fault
    by it x (inl (name, names, f)) (inl known) = inl (inl (name, names, subst (λ z. Opens held ⊥ no_sources it.desc [] z) f known))
    by it x (inr own) (inl known) = on_right (own_cause it x known own)
    by it x u (inr (came, v)) = inr came

    at : (o : Option Asked) → MatchOption o (IsBad reads reply) (λ it. IsReply it held fault reads reply) → MatchOption o ⊥ (λ it. IsUnreadable it.desc held ⊎ IsOwnUnreadable it.desc it.command held) ⊎ fault
    at None p = let f : bad_words.status ≡ 3 = sym (ap (λ (r : Reply). r.status) p.replied) ∙ e in absurd cc
    at (Some it) p = by it p (status_unread it p.fetched p.own held fault reply p.replied p.given e) (opens_known p.reading)

  -- Where no fault came, or the status isn't that of a file that can't be read, the answer is one without a fault.
  pub answer_known : Answer words held fault reads reply → (fault × (reply.status ≡ 3) → ⊥) → Answer words held ⊥ reads reply
  answer_known p unless = at (settled p) where
    at : Answer words held ⊥ reads reply ⊎ (fault × SaysUnread reply) → Answer words held ⊥ reads reply
    at (inl known) = known
    at (inr (came, says)) = absurd (unless (came, says.0))

-- Where a file is written, no file was unread.
pub writing_known : (fault : Type 0) (words : List (List ℕ)) (held : Option Held) (reads : List Asking) (reply : Reply) (file : NewFile) → Answer words held fault reads reply → reply.file ≡ Some file → Answer words held ⊥ reads reply
writing_known fault words held reads reply file p there = at (settled {fault = fault} words held reads reply p) where
  at : Answer words held ⊥ reads reply ⊎ (fault × SaysUnread reply) → Answer words held ⊥ reads reply
  at (inl known) = known
  at (inr (came, says)) = absurd (none_is_some (sym says.1 ∙ there))

-- Where a file can't be read though no fault came, the answer says so.
own_answered : (it : Asked) (files : Held) {reads : List Asking} (reply : Reply) → IsOwnUnreadable it.desc it.command (Some files) → IsReply it (Some files) ⊥ reads reply → reply.status ≡ 3
own_answered it files reply u x = by x.own (subst (λ (o : Option Asking). IsOwn o (Some files) ⊥ x.own) there x.given) refl where
  same : u.fetched ≡ x.fetched
  same = one_opened u.reading x.reading

  there : own_file it.command x.fetched ≡ Some u.asking
  there = ap (own_file it.command) (sym same) ∙ u.there

  by : (o : Result (List ℕ) (List ℕ)) → IsOwn (Some u.asking) (Some files) ⊥ o → x.own ≡ o → reply.status ≡ 3
  by (Ok bytes) has e = absurd (out_text (inl u.out) has)
  by (Err name) has e = (own_status it x.fetched x.own reply x.replied (u.asking, there, e ∙ ap Err has.0)).0

pub unread_answered : (words : List (List ℕ)) (held : Option Held) (reads : List Asking) (reply : Reply) → IsUnread words held → Answer words held ⊥ reads reply → reply.status ≡ 3
unread_answered words held reads reply u p = at (asked words) u p where
  by : (it : Asked) (m : Option Held) (x : IsReply it m ⊥ reads reply) → IsUnreadable it.desc m → IsUnreadAt x.fetched
  by it None x (name, names, r) = absurd (opens_told r (name, names, refl))
  by it (Some files) x (name, names, r) = (name, names, one_opened x.reading r)

  own : (it : Asked) (m : Option Held) (x : IsReply it m ⊥ reads reply) → IsOwnUnreadable it.desc it.command m → reply.status ≡ 3
  own it None x y = absurd (none_out y.asking y.out)
  own it (Some files) x y = own_answered it files reply y x

  at : (o : Option Asked) → MatchOption o ⊥ (λ it. IsUnreadable it.desc held ⊎ IsOwnUnreadable it.desc it.command held) → MatchOption o (IsBad reads reply) (λ it. IsReply it held ⊥ reads reply) → reply.status ≡ 3
  at None u p = absurd u
  at (Some it) (inl u) p = (unread_status it p.fetched p.own reply p.replied (by it held p u)).0
  at (Some it) (inr u) p = own it held p u

-- Over files that tell what they hold there is one answer, and one list of what is read for it.
one_own : (files : Held) (name : Option Asking) (a b : Result (List ℕ) (List ℕ)) → IsOwn name (Some files) ⊥ a → IsOwn name (Some files) ⊥ b → a ≡ b
one_own files None a b p q = p ∙ sym q
one_own files (Some name) (Ok a) (Ok b) p q = ap Ok (one_text p q)
one_own files (Some name) (Ok a) (Err y) p q = absurd (out_text q.1 p)
one_own files (Some name) (Err x) (Ok b) p q = absurd (out_text p.1 q)
one_own files (Some name) (Err x) (Err y) p q = ap Err (p.0 ∙ sym q.0)

pub answered_once : (words : List (List ℕ)) (files : Held) (reads more : List Asking) (a b : Reply) →
    Answer words (Some files) ⊥ reads a → Answer words (Some files) ⊥ more b → (reads ≡ more) × (a ≡ b)
answered_once words files reads more a b p q = at (asked words) p q where
  at : (o : Option Asked) → MatchOption o (IsBad reads a) (λ it. IsReply it (Some files) ⊥ reads a) → MatchOption o (IsBad more b) (λ it. IsReply it (Some files) ⊥ more b) → (reads ≡ more) × (a ≡ b)
  at None p q = (p.nothing ∙ sym q.nothing, p.replied ∙ sym q.replied)
  at (Some it) p q =
      let same : p.fetched ≡ q.fetched = one_opened p.reading q.reading in
      let theirs : IsOwn (own_file it.command p.fetched) (Some files) ⊥ q.own = subst (λ (f : Fetched). IsOwn (own_file it.command f) (Some files) ⊥ q.own) (sym same) q.given in
      let own : p.own ≡ q.own = one_own files (own_file it.command p.fetched) p.own q.own p.given theirs in
      let replies : RepliesTo it p.fetched p.own b = subst (λ (o : Result (List ℕ) (List ℕ)). RepliesTo it p.fetched o b) (sym own) (subst (λ (f : Fetched). RepliesTo it f q.own b) (sym same) q.replied) in
      (p.names ∙ ap (λ (f : Fetched). askings (files_asked f) ++ own_asked (own_file it.command f)) same ∙ sym q.names, one_reply it p.fetched p.own a b p.replied replies)
