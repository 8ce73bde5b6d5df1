-- What was asked for, and that it is a front of what is asked for.
use Rattle.std.proofs.Common.{◌≡◌, ◌⊎◌, ◌≤◌, ℕ, zero, suc, List, [], ◌∷◌, ◌++◌, length, take, Option, Some, None, Result, refl, sym, ap, subst, ◌∙◌, inl, inr, arith}
use Rattle.std.proofs.lemmas.List.{take_all}
use Rattle.cg_base.specs.Counts.{Rose}
use Rattle.cg_top_include.specs.Fetching.{IsFetched, HasAsked, HasAskedFront, askings, files_asked}
use Rattle.cg_top_include.specs.declared.gathering.Fetched.{Fetched}
use Rattle.cg_top_include.specs.declared.gathering.Fetched.TheVariants.{Read, Refused, Unread}
use Rattle.cg_top_include.proofs.OneReading.{IsUnreadAt, opens_known, one_opened}
use Rattle.cg_io.specs.Asking.{Asking}
use Rattle.cg_io.specs.Held.{Held, appended, AppendsFront}
use Rattle.cg_top.specs.declared.asking.Asked.{Asked}
use Rattle.cg_top.specs.declared.replies.Reply.{Reply}
use Rattle.cg_top.specs.Answer.{IsReply}
use Rattle.cg_top.specs.Own.{own_file, own_asked, IsOwn}
use Rattle.cg_top.specs.Replies.{RepliesTo}
use Rattle.cg_top.proofs.OwnLemmas.{nothing_asked, asked_twice, own_more, opens_more, rose_later, rose_before}

shorter : {A : Type 0} (k : ℕ) (xs ys : List A) → (j : ℕ) × (take k xs ≡ take j (xs ++ ys))
shorter zero xs ys = (0, refl)
shorter (suc k) [] ys = (0, refl)
shorter (suc k) (x ∷ xs) ys = let (j, e) = shorter k xs ys in (suc j, ap (λ t. x ∷ t) e)

pub front_longer : (old new : Option (List Asking)) (xs ys : List Asking) → AppendsFront old new xs → AppendsFront old new (xs ++ ys)
front_longer old new xs ys (k, e) = let (j, s) = shorter k xs ys in (j, e ∙ ap (appended old) s)

pub all_front : (old new : Option (List Asking)) (xs : List Asking) → new ≡ appended old xs → AppendsFront old new xs
all_front old new xs e = (length xs, e ∙ ap (appended old) (sym (take_all (length xs) xs (omega arith))))

-- The answer, by what was read.
pub reply_answered : (it : Asked) (held mid : Option Held) (f g h : ℕ) (before asked after : Option (List Asking)) (fetched : Fetched) (own : Result (List ℕ) (List ℕ)) (reply : Reply) → mid ≡ held → f ≤ g → g ≤ h →
    IsFetched it.desc held (Rose f g) fetched → HasAsked before (files_asked fetched) asked → IsOwn (own_file it.command fetched) mid (Rose g h) own → after ≡ appended asked (own_asked (own_file it.command fetched)) → RepliesTo it fetched own reply →
    (reads : List Asking) × IsReply it held (Rose f h) reads reply × (after ≡ appended before reads)
reply_answered it held mid f g h before asked after fetched own reply same low high reading has given e replied =
    let name : Option Asking = own_file it.command fetched in
    let here : IsOwn name held (Rose g h) own = subst (λ (m : Option Held). IsOwn name m (Rose g h) own) same given in (
      askings (files_asked fetched) ++ own_asked name,
      record { fetched = fetched; reading = opens_more (λ r. rose_later f g h r high) reading; own = own; given = own_more held (Rose g h) (Rose f h) name own (λ r. rose_before f g h low r) here; names = refl; replied = replied },
      e ∙ ap (λ a. appended a (own_asked name)) has ∙ asked_twice before (askings (files_asked fetched)) (own_asked name),
    )

-- Just a front was asked for of what is read where no fault comes.
own_none : (it : Asked) (before asked after : Option (List Asking)) (fetched other : Fetched) → own_file it.command fetched ≡ None → after ≡ appended asked (own_asked (own_file it.command fetched)) → HasAskedFront before other asked →
    AppendsFront before after (askings (files_asked other) ++ own_asked (own_file it.command other))
own_none it before asked after fetched other none e front =
    let same : after ≡ asked = e ∙ ap (λ o. appended asked (own_asked o)) none ∙ nothing_asked asked in
    front_longer before after (askings (files_asked other)) (own_asked (own_file it.command other)) (subst (λ (a : Option (List Asking)). HasAskedFront before other a) (sym same) front)

own_read : {fault : Type 0} (it : Asked) (files : Held) (before asked after : Option (List Asking)) (fetched other : Fetched) → ((name : List ℕ) (names : List (List ℕ)) → fetched ≡ Unread name names → ⊥) → IsFetched it.desc (Some files) fault fetched → IsFetched it.desc (Some files) ⊥ other →
    HasAsked before (files_asked fetched) asked → after ≡ appended asked (own_asked (own_file it.command fetched)) → AppendsFront before after (askings (files_asked other) ++ own_asked (own_file it.command other))
own_read {fault} it files before asked after fetched other never reading there has e = at (opens_known reading) where
  at : IsFetched it.desc (Some files) ⊥ fetched ⊎ (fault × IsUnreadAt fetched) → AppendsFront before after (askings (files_asked other) ++ own_asked (own_file it.command other))
  at (inl known) =
      let same : fetched ≡ other = one_opened known there in
      all_front before after (askings (files_asked other) ++ own_asked (own_file it.command other))
      (subst (λ (x : Fetched). after ≡ appended before (askings (files_asked x) ++ own_asked (own_file it.command x))) same
      (e ∙ ap (λ a. appended a (own_asked (own_file it.command fetched))) has ∙ asked_twice before (askings (files_asked fetched)) (own_asked (own_file it.command fetched))))
  at (inr (came, (name, names, is))) = absurd (never name names is)

pub own_front : {fault : Type 0} (it : Asked) (files : Held) (before asked after : Option (List Asking)) (fetched other : Fetched) → IsFetched it.desc (Some files) fault fetched → IsFetched it.desc (Some files) ⊥ other →
    HasAsked before (files_asked fetched) asked → HasAskedFront before other asked → after ≡ appended asked (own_asked (own_file it.command fetched)) → AppendsFront before after (askings (files_asked other) ++ own_asked (own_file it.command other))
own_front it files before asked after (Read forms names) other reading there has front e = own_read it files before asked after (Read forms names) other (λ name more is. read_unread is) reading there has e where
  read_unread : {n : List ℕ} {more : List (List ℕ)} → Read forms names ≡ Unread n more → ⊥
  read_unread is = cc
own_front it files before asked after (Refused refusal names) other reading there has front e = own_none it before asked after (Refused refusal names) other refl e front
own_front it files before asked after (Unread name names) other reading there has front e = own_none it before asked after (Unread name names) other refl e front

pub front_cut : (it : Asked) (files : Held) (before asked : Option (List Asking)) (reads : List Asking) (reply : Reply) → ((fetched : Fetched) → IsFetched it.desc (Some files) ⊥ fetched → HasAskedFront before fetched asked) → IsReply it (Some files) ⊥ reads reply → AppendsFront before asked reads
front_cut it files before asked reads reply front x =
    subst (λ (rs : List Asking). AppendsFront before asked rs) (sym x.names) (front_longer before asked (askings (files_asked x.fetched)) (own_asked (own_file it.command x.fetched)) (front x.fetched x.reading))

pub front_read : (fault : Type 0) (it : Asked) (files : Held) (held : Option Held) (before asked after : Option (List Asking)) (fetched : Fetched) (reads : List Asking) (reply : Reply) → held ≡ Some files → IsFetched it.desc held fault fetched → HasAsked before (files_asked fetched) asked →
    ((other : Fetched) → IsFetched it.desc (Some files) ⊥ other → HasAskedFront before other asked) → after ≡ appended asked (own_asked (own_file it.command fetched)) → IsReply it (Some files) ⊥ reads reply → AppendsFront before after reads
front_read fault it files held before asked after fetched reads reply e reading has front a x =
    subst (λ (rs : List Asking). AppendsFront before after rs) (sym x.names)
    (own_front it files before asked after fetched x.fetched (subst (λ (h : Option Held). IsFetched it.desc h fault fetched) e reading) x.reading has (front x.fetched x.reading) a)
