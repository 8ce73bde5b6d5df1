-- What is printed, and with which status.
use Rattle.std.specs.Prelude.{◌≡◌, ℕ, List, [], ◌∷◌, ◌++◌, length, slice_get, Some, None, Result, Ok, Err, codes, pos}
use Rattle.std.specs.Option.{unwrap_or}
use Rattle.std.specs.Fmt.{signed_decimal}
use Rattle.cg_base.specs.declared.form.Forms.{Forms}
use Rattle.cg_base.specs.declared.refusal.Refusal.{Refusal}
use Rattle.cg_top.specs.declared.asking.Asked.{Asked}
use Rattle.cg_top.specs.declared.asking.Command.{Command}
use Rattle.cg_top.specs.declared.asking.Assembly.{Assembly}
use Rattle.cg_top.specs.declared.asking.Listing.{Listing}
use Rattle.cg_top.specs.declared.asking.Command.TheVariants.{Check, Decode, Assemble, ListImage}
use Rattle.cg_top_include.specs.declared.gathering.Fetched.{Fetched}
use Rattle.cg_top_include.specs.declared.gathering.Fetched.TheVariants.{Read, Refused, Unread}
use Rattle.cg_list.specs.Decoding.{decoded_line}
use Rattle.cg_desc.specs.Answering.{as_stop}
use Rattle.cg_model.specs.Clashing.{decoded_to}
use Rattle.cg_model_source.specs.Imaging.{SourceRefusal, image}
use Rattle.cg_model_source.specs.Listing.{listing}
use Rattle.cg_model_source.specs.Sourcing.{only_set}
use Rattle.cg_model.specs.declared.machine.Machine.{Machine}
use Rattle.cg_top.specs.declared.replies.Reply.{Reply}
use Rattle.cg_top.specs.Lines.{lines_of}
use Rattle.cg_top.specs.Loading.{Loads}

abbrev pub reply : ℕ → List (List ℕ) → Reply
reply status lines = record { status = status; lines = lines; file = None }

-- the decimal digits of a number
abbrev pub decimal_of : ℕ → List ℕ
decimal_of number = signed_decimal (pos number)

-- a blank and these bytes, where there are any
abbrev pub behind_blank : List ℕ → List ℕ
behind_blank [] = []
behind_blank (byte ∷ bytes) = codes " " ++ byte ∷ bytes

-- How a refusal of the file NAME is printed: `E<number> NAME:<line> <text>`, then a blank and the other text where it
-- isn't empty.
abbrev pub refusal_line : List ℕ → Refusal → List ℕ
refusal_line name refusal =
    codes "E" ++ decimal_of refusal.number ++ codes " " ++ name ++ codes ":" ++ decimal_of refusal.line ++ codes " " ++ refusal.text
    ++ behind_blank refusal.other ++ codes "\n"

-- The name of a description's file by its number, the description's own being the first.
abbrev pub name_of : List ℕ → List (List ℕ) → ℕ → List ℕ
name_of desc names file = unwrap_or (slice_get names file) desc

-- A refusal is one line, with status 1. It has the name of the file that it speaks of.
abbrev pub refused : List ℕ → List (List ℕ) → Refusal → Reply
refused desc names refusal = reply 1 (refusal_line (name_of desc names refusal.file) refusal ∷ [])

-- A file that can't be read, or written, is one line, with status 3.
abbrev pub cannot_read : List ℕ → Reply
cannot_read name = reply 3 ((codes "cannot read " ++ name ++ codes "\n") ∷ [])

abbrev pub cannot_write : List ℕ → Reply
cannot_write name = reply 3 ((codes "cannot write " ++ name ++ codes "\n") ∷ [])

-- Words that ask nothing are one line, with status 2.
abbrev pub bad_words : Reply
bad_words = reply 2 (codes "bad words\n" ∷ [])

-- How many instructions a machine has that is accepted.
abbrev pub count_line : ℕ → List ℕ
count_line n = codes "ok " ++ decimal_of n ++ codes " instructions\n"

-- How many bytes an image has.
abbrev pub image_line : ℕ → List ℕ
image_line n = codes "image " ++ decimal_of n ++ codes " bytes\n"

-- A refusal of a source, whose line has the name of the source's file.
abbrev pub source_refusal : SourceRefusal → Refusal
source_refusal r = record { number = r.number; file = 0; line = r.line; text = r.text; other = r.other }

-- An image is written to its file, and its line says how many bytes it has.
abbrev pub assembled : Assembly → Result (List ℕ) SourceRefusal → Reply
assembled it (Ok bytes) = record { status = 0; lines = image_line (length bytes) ∷ []; file = Some (record { name = it.image; bytes = bytes }) }
assembled it (Err refusal) = reply 1 (refusal_line it.source (source_refusal refusal) ∷ [])

-- A listing is told line by line.
abbrev pub listed : Listing → Machine → List ℕ → Reply
listed it machine bytes = reply 0 (lines_of (listing machine (decoded_to machine) it.base bytes))

-- What a command does with its machine and the bytes of its own file.
abbrev pub performed : Command → Machine → List ℕ → Reply
performed Check machine own = reply 0 (count_line (length machine.insns) ∷ [])
performed (Decode bytes) machine own = reply 0 (decoded_line machine bytes ∷ [])
performed (Assemble it) machine own = assembled it (image (only_set machine) it.base own)
performed (ListImage it) machine own = listed it machine own

abbrev pub performed_on : Asked → List (List ℕ) → List ℕ → Result Machine Refusal → Reply
performed_on asked names own (Ok machine) = performed asked.command machine own
performed_on asked names own (Err refusal) = refused asked.desc names refusal

-- This is replied where the description has these forms, from files of these names, and the command's own file these bytes.
pub record IsDescribed (asked : Asked) (forms : Forms) (names : List (List ℕ)) (own : List ℕ) (given : Reply) : Type 0 where
  pub loaded : Result Machine Refusal
  pub loads : Loads forms asked.mach (as_stop loaded)
  pub replied : given ≡ performed_on asked names own loaded

-- This is replied to what reading the description gave, and to what reading the command's own file gave.
abbrev pub RepliesTo : Asked → Fetched → Result (List ℕ) (List ℕ) → Reply → Type 0
RepliesTo asked (Read forms names) (Ok own) given = IsDescribed asked forms names own given
RepliesTo asked (Read forms names) (Err name) given = given ≡ cannot_read name
RepliesTo asked (Refused refusal names) own given = given ≡ refused asked.desc names refusal
RepliesTo asked (Unread name names) own given = given ≡ cannot_read name
