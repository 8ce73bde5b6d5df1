-- What carrying out a reply leaves.
use Rattle.std.proofs.Common.{◌≡◌, ◌≢◌, ◌⊎◌, ℕ, List, Option, Some, None, refl, sym, ap, ◌∙◌, inl, inr, arith}
use Rattle.cg_io.specs.Asking.{Asking}
use Rattle.cg_io.specs.Held.{Held, appended, written, KeepsOthers}
use Rattle.cg_top.specs.declared.replies.NewFile.{NewFile}
use Rattle.cg_top.specs.declared.replies.Reply.{Reply}
use Rattle.cg_top.specs.Answer.{Answer, with_file}
use Rattle.cg_top.specs.Top.{told, held_and_wrote, Loses, IsPrinted, IsDone, IsCutOff, IsCarriedOut, IsAnswered, IsUnread, LeavesFiles}
use Rattle.cg_top.proofs.AnswerLemmas.{answer_known, writing_known, unread_cause, unread_answered}

pub carried_printed : {put write : Type 0} (reply : Reply) (status : ℕ) (held kept : Option Held) (wrote now : Option (List ℕ)) → kept ≡ with_file reply held → IsPrinted reply status wrote now put →
    IsCarriedOut reply status (held_and_wrote held wrote) (held_and_wrote kept now) put write
carried_printed reply status held kept wrote now h (inl (s, w)) = inl (record { same_status = s; held = h; wrote = w })
carried_printed reply status held kept wrote now h (inr (inl four)) = inr (record { why = inl four; held = inr (inl h) })
carried_printed reply status held kept wrote now h (inr (inr (three, came))) = inr (record { why = inr (three, inl came); held = inr (inl h) })

pub carried_unwritten : {put write : Type 0} (reply : Reply) (status : ℕ) (held kept : Option Held) (wrote now : Option (List ℕ)) → write → Loses reply held kept → (status ≡ 3) ⊎ (status ≡ 4) →
    IsCarriedOut reply status (held_and_wrote held wrote) (held_and_wrote kept now) put write
carried_unwritten reply status held kept wrote now came l (inl three) = inr (record { why = inr (three, inr (came, l)); held = inr (inr l) })
carried_unwritten reply status held kept wrote now came l (inr four) = inr (record { why = inl four; held = inr (inr l) })

pub carried_not : {put write : Type 0} (reply : Reply) (held kept : Option Held) (wrote now : Option (List ℕ)) → kept ≡ held → IsCarriedOut reply 4 (held_and_wrote held wrote) (held_and_wrote kept now) put write
carried_not reply held kept wrote now same = inr (record { why = inl refl; held = inl same })

-- The files afterwards.
with_file_is : (reply : Reply) (held : Option Held) (file : NewFile) → reply.file ≡ Some file → with_file reply held ≡ written held file.name file.bytes
with_file_is reply held file e = ap (λ o. elim o as (λ x. Option Held) [ None ↦ held | Some f ↦ written held f.name f.bytes ]) e

without_file : (reply : Reply) (held : Option Held) → reply.file ≡ None → with_file reply held ≡ held
without_file reply held e = ap (λ o. elim o as (λ x. Option Held) [ None ↦ held | Some f ↦ written held f.name f.bytes ]) e

pub kept_file : (reply : Reply) (held kept : Option Held) (file : NewFile) → reply.file ≡ Some file → kept ≡ written held file.name file.bytes → kept ≡ with_file reply held
kept_file reply held kept file is e = e ∙ sym (with_file_is reply held file is)

pub kept_nothing : (reply : Reply) (held : Option Held) → reply.file ≡ None → held ≡ with_file reply held
kept_nothing reply held is = sym (without_file reply held is)

pub lost_file : (reply : Reply) (held kept : Option Held) (file : NewFile) → reply.file ≡ Some file → KeepsOthers held kept file.name → Loses reply held kept
lost_file reply held kept file is keeps = (file, is, keeps)

pub ruleset keeping = (kept_file, kept_nothing, lost_file)

pub ruleset carrying = (carried_printed, carried_unwritten, carried_not)

module _ (fault : Type 0) (words : List (List ℕ)) (held : Option Held) (reads : List Asking) (reply : Reply) (answer : Answer words held fault reads reply) where
  left_written : (kept : Option Held) → kept ≡ with_file reply held → LeavesFiles words held kept
  left_written kept e = at reply.file refl where
    at : (o : Option NewFile) → reply.file ≡ o → LeavesFiles words held kept
    at None is = inl (e ∙ without_file reply held is)
    at (Some file) is =
        inr (file, record { reads = reads; reply = reply; answer = writing_known fault words held reads reply file answer is; there = is }, inl (e ∙ with_file_is reply held file is))

  left_lost : (kept : Option Held) → Loses reply held kept → LeavesFiles words held kept
  left_lost kept (file, is, keeps) = inr (file, record { reads = reads; reply = reply; answer = writing_known fault words held reads reply file answer is; there = is }, inr keeps)

  module _ {status : ℕ} {wrote now : Option (List ℕ)} {kept : Option Held} {put write : Type 0} (carried : IsCarriedOut reply status (held_and_wrote held wrote) (held_and_wrote kept now) put write) where
    pub left_files : LeavesFiles words held kept
    left_files = at carried where
      by : (kept ≡ held) ⊎ ((kept ≡ with_file reply held) ⊎ Loses reply held kept) → LeavesFiles words held kept
      by (inl same) = inl same
      by (inr (inl w)) = left_written kept w
      by (inr (inr l)) = left_lost kept l

      at : IsDone reply status (held_and_wrote held wrote) (held_and_wrote kept now) ⊎ IsCutOff reply status (held_and_wrote held wrote) (held_and_wrote kept now) put write → LeavesFiles words held kept
      at (inl done) = left_written kept done.held
      at (inr cut) = by cut.held

    answered_by : {before after : Option (List Asking)} → after ≡ appended before reads → IsDone reply status (held_and_wrote held wrote) (held_and_wrote kept now) → (fault × (reply.status ≡ 3) → ⊥) → IsAnswered words status (told held before wrote) (told kept after now)
    answered_by asks done unless =
        record { reads = reads; reply = reply; answer = answer_known {fault = fault} words held reads reply answer unless; same_status = done.same_status; held = done.held; written = done.wrote; asked = asks }

    cut_never : (put → ⊥) → (write → ⊥) → (status ≡ 4 → ⊥) → (status ≡ 4) ⊎ ((status ≡ 3) × (put ⊎ (write × Loses reply held kept))) → ⊥
    cut_never no_put no_write some (inl four) = some four
    cut_never no_put no_write some (inr (three, inl came)) = no_put came
    cut_never no_put no_write some (inr (three, inr (came, l))) = no_write came

    cut_other : (status ≡ 3 → ⊥) → (status ≡ 4 → ⊥) → (status ≡ 4) ⊎ ((status ≡ 3) × (put ⊎ (write × Loses reply held kept))) → ⊥
    cut_other not_three some (inl four) = some four
    cut_other not_three some (inr (three, came)) = not_three three

    pub is_headline : {before after : Option (List Asking)} → after ≡ appended before reads → (fault → ⊥) → (put → ⊥) → (write → ⊥) → status ≢ 4 → IsAnswered words status (told held before wrote) (told kept after now)
    is_headline {before} {after} asks no_read no_put no_write some = at carried where
      at : IsDone reply status (held_and_wrote held wrote) (held_and_wrote kept now) ⊎ IsCutOff reply status (held_and_wrote held wrote) (held_and_wrote kept now) put write → IsAnswered words status (told held before wrote) (told kept after now)
      at (inl done) = answered_by asks done (λ x. no_read x.0)
      at (inr cut) = absurd (cut_never no_put no_write some cut.why)

    pub is_answered : {before after : Option (List Asking)} → after ≡ appended before reads → status ≢ 3 → status ≢ 4 → IsAnswered words status (told held before wrote) (told kept after now)
    is_answered {before} {after} asks not_three some = at carried where
      at : IsDone reply status (held_and_wrote held wrote) (held_and_wrote kept now) ⊎ IsCutOff reply status (held_and_wrote held wrote) (held_and_wrote kept now) put write → IsAnswered words status (told held before wrote) (told kept after now)
      at (inl done) = answered_by asks done (λ x. not_three (done.same_status ∙ x.1))
      at (inr cut) = absurd (cut_other not_three some cut.why)

    pub has_cause : status ≡ 3 → IsUnread words held ⊎ (fault ⊎ (put ⊎ write))
    has_cause three = at carried where
      from_answer : IsUnread words held ⊎ fault → IsUnread words held ⊎ (fault ⊎ (put ⊎ write))
      from_answer (inl u) = inl u
      from_answer (inr came) = inr (inl came)

      cut_off : (status ≡ 4) ⊎ ((status ≡ 3) × (put ⊎ (write × Loses reply held kept))) → IsUnread words held ⊎ (fault ⊎ (put ⊎ write))
      cut_off (inl four) = absurd (omega (arith, three, four))
      cut_off (inr (same, inl came)) = inr (inr (inl came))
      cut_off (inr (same, inr (came, l))) = inr (inr (inr came))

      at : IsDone reply status (held_and_wrote held wrote) (held_and_wrote kept now) ⊎ IsCutOff reply status (held_and_wrote held wrote) (held_and_wrote kept now) put write → IsUnread words held ⊎ (fault ⊎ (put ⊎ write))
      at (inl done) = from_answer (unread_cause {fault = fault} words held reads reply answer (sym done.same_status ∙ three))
      at (inr cut) = cut_off cut.why

    pub is_unread : IsUnread words held → (fault → ⊥) → (put → ⊥) → (write → ⊥) → status ≢ 4 → status ≡ 3
    is_unread u no_read no_put no_write some = at carried where
      at : IsDone reply status (held_and_wrote held wrote) (held_and_wrote kept now) ⊎ IsCutOff reply status (held_and_wrote held wrote) (held_and_wrote kept now) put write → status ≡ 3
      at (inl done) = done.same_status ∙ unread_answered words held reads reply u (answer_known {fault = fault} words held reads reply answer (λ x. no_read x.0))
      at (inr cut) = absurd (cut_never no_put no_write some cut.why)
