-- Fields, multi fields and operands that nothing is wrong with.
use Rattle.std.proofs.Common.{◌≡◌, ℕ, ◌+◌, ◌*◌, ◌/◌, ◌≤◌, Bool, true, ◌==◌, nat_le, nat_lt, List, [], ◌∷◌, length, Option, Some, None, ap, refl, arith}
use Rattle.std.specs.List.{list_all}
use Rattle.std.proofs.lemmas.Bool.{eqb-true}
use Rattle.std.proofs.lemmas.Bool.Decides.{nat_tests}
use Rattle.cg_base.specs.Modes.{bits_of}
use Rattle.cg_base.specs.declared.mode.Mode.{Mode}
use Rattle.cg_model.specs.Covers.{IsInWord}
use Rattle.cg_model.specs.Formed.{is_size, has_bits, is_formed, is_formed_where, is_field, is_multi}
use Rattle.cg_model.specs.Sound.{SoundField, AreInserts, are_fields, SoundMulti, has_source, SoundOperand, SoundBase}
use Rattle.cg_model_faults.specs.declared.fault.Purpose.TheVariants as purpose
use Rattle.cg_model.specs.declared.field.Field.{Field}
use Rattle.cg_model.specs.declared.field.Multi.{Multi}
use Rattle.cg_model.specs.declared.machine.Machine.{Machine}
use Rattle.cg_model.specs.declared.operand.Operand.{Operand}
use Rattle.cg_model.specs.declared.operand.Source.{Source}
use Rattle.cg_model.specs.declared.operand.Source.TheVariants as source
use Rattle.cg_model.specs.declared.rtl.Rtl.{Rtl}
use Rattle.cg_model_faults.specs.E306 as e306
use Rattle.cg_model_faults.specs.E308 as e308
use Rattle.cg_model_faults.specs.E309.{has_place, misplaced}
use Rattle.cg_model_faults.specs.Elements.{cells_of, numbers_of, purity_of, where_there, of_all, judged_where, field_judged, inserts_judged, multi_judged, mode_of_field, field_modes, multi_modes}
use Rattle.cg_model_laws.proofs.Clear.{Each, AreNone, all_none, AreTrue, all_true, front_none, back_none, not_true, FieldClear, MultiClear, OperandClear}
use Rattle.cg_model_laws.proofs.Nodes.{both_true, there}
use Rattle.cg_model_laws.proofs.Rules.{JudgedClear, judged_clear, each_front, each_back, judged_one, there_none, encodes, decodes, inserts, value_rule, fields_rule}

-- a size is of whole bytes, one to eight
pub size_of : (bits : ℕ) → is_size bits ≡ true → SoundBase bits
size_of bits h =
    let tests : AreTrue ((bits == 8 * (bits / 8)) ∷ nat_le 8 bits ∷ nat_le bits 64 ∷ []) = all_true (bits == 8 * (bits / 8)) (nat_le 8 bits ∷ nat_le bits 64 ∷ []) h in
    let least : nat_le 8 bits ≡ true = tests.1.0 in
    let most : nat_le bits 64 ≡ true = tests.1.1.0 in
    record { bytes = eqb-true bits (8 * (bits / 8)) tests.0; some = grind (arith, nat_tests); few = grind (arith, nat_tests) }

pub valued : (k : Mode) → has_bits k ≡ true → 1 ≤ bits_of k
valued k h = grind (arith, nat_tests)

-- what is known of a field
record FieldParts (m : Machine) (f : Field) : Type 0 where
  placed : misplaced f ≡ []
  encode_named : where_there (numbers_of m) f.encode ≡ []
  decode_named : where_there (numbers_of m) f.decode ≡ []
  encode_pure : where_there (purity_of m purpose.Encode []) f.encode ≡ []
  decode_pure : where_there (purity_of m purpose.Decode []) f.decode ≡ []

field_parts : (m : Machine) (f : Field) → FieldClear m f → FieldParts m f
field_parts m f x =
    let none : AreNone (where_there (cells_of m) f.encode ∷ where_there (cells_of m) f.decode ∷ where_there (numbers_of m) f.encode ∷ where_there (numbers_of m) f.decode ∷ e308.of_field x.before x.spent f ∷ misplaced f ∷ where_there (purity_of m purpose.Encode []) f.encode ∷ where_there (purity_of m purpose.Decode []) f.decode ∷ []) = all_none (where_there (cells_of m) f.encode) (where_there (cells_of m) f.decode ∷ where_there (numbers_of m) f.encode ∷ where_there (numbers_of m) f.decode ∷ e308.of_field x.before x.spent f ∷ misplaced f ∷ where_there (purity_of m purpose.Encode []) f.encode ∷ where_there (purity_of m purpose.Decode []) f.decode ∷ []) x.none in
    record {
      encode_named = none.1.1.0;
      decode_named = none.1.1.1.0;
      placed = none.1.1.1.1.1.0;
      encode_pure = none.1.1.1.1.1.1.0;
      decode_pure = none.1.1.1.1.1.1.1.0;
    }

-- a field has its place
record HasPlace (f : Field) : Type 0 where
  own : 1 ≤ f.length
  within : f.shift + f.length ≤ f.word_bits
  fits : f.length ≤ bits_of f.mode

place_of : (f : Field) → misplaced f ≡ [] → HasPlace f
place_of f h =
    let all : has_place f ≡ true = not_true (has_place f) _ h in
    let tests : AreTrue (nat_le 1 f.length ∷ nat_le (f.shift + f.length) f.word_bits ∷ nat_le f.length (bits_of f.mode) ∷ []) = all_true (nat_le 1 f.length) (nat_le (f.shift + f.length) f.word_bits ∷ nat_le f.length (bits_of f.mode) ∷ []) all in
    let some : nat_le 1 f.length ≡ true = tests.0 in
    let inside : nat_le (f.shift + f.length) f.word_bits ≡ true = tests.1.0 in
    let short : nat_le f.length (bits_of f.mode) ≡ true = tests.1.1.0 in
    record { own = grind (arith, nat_tests); within = grind (arith, nat_tests); fits = grind (arith, nat_tests) }

in_word : (f : Field) → is_field f ≡ true → HasPlace f → IsInWord f
in_word f h p =
    let begins : Bool = f.word_offset == 8 * (f.word_offset / 8) in
    let rest : List Bool = is_size f.word_bits ∷ has_bits f.mode ∷ is_formed_where f.encode ∷ is_formed_where f.decode ∷ [] in
    let tests : AreTrue (begins ∷ rest) = all_true begins rest h in
    let size : SoundBase f.word_bits = size_of f.word_bits tests.1.0 in
    record { bytes = size.bytes; offset = eqb-true f.word_offset (8 * (f.word_offset / 8)) tests.0; some = size.some; few = size.few; own = p.own; within = p.within }

pub sound_field : (m : Machine) (f : Field) → is_field f ≡ true → FieldClear m f → field_modes m f ≡ [] → SoundField m f
sound_field m f formed clear modes =
    let parts = field_parts m f clear in
    let place = place_of f parts.placed in
    let judged = judged_clear m (field_judged f) modes in
    let encodings = judged_where purpose.Encode (Some f.mode) (Some f.mode) f.encode in
    let decodings = judged_where purpose.Decode (Some f.mode) (Some f.mode) f.decode in
    record {
      placed = in_word f formed place;
      fits = place.fits;
      encode = λ r is. value_rule m purpose.Encode (Some f.mode) f.mode f.mode r encodes refl
          (there_none (numbers_of m) f.encode r is parts.encode_named)
          (there_none (purity_of m purpose.Encode []) f.encode r is parts.encode_pure)
          (judged_one m purpose.Encode (Some f.mode) (Some f.mode) f.encode r is (each_front (JudgedClear m) encodings decodings judged));
      decode = λ r is. value_rule m purpose.Decode (Some f.mode) f.mode f.mode r decodes refl
          (there_none (numbers_of m) f.decode r is parts.decode_named)
          (there_none (purity_of m purpose.Decode []) f.decode r is parts.decode_pure)
          (judged_one m purpose.Decode (Some f.mode) (Some f.mode) f.decode r is (each_back (JudgedClear m) encodings decodings judged));
    }

-- the fields of a multi field
subs_there : (m : Machine) (place : ℕ) (ks : List ℕ) → e306.beyond_from (length m.fields) place ks ≡ [] → are_fields m ks ≡ true
subs_there m place [] h = refl
subs_there m place (k ∷ ks) h =
    both_true _ _
    (there m.fields k (not_true (nat_lt k (length m.fields)) _ (front_none (e306.beyond (length m.fields) place k) _ h)))
    (subs_there m (place + 1) ks (back_none (e306.beyond (length m.fields) place k) _ h))

abbrev mode_where : Option Field → Option Mode
mode_where None = None
mode_where (Some f) = Some f.mode

inserts_right : (m : Machine) (own : Mode) (ks : List ℕ) (rs : List Rtl) → length rs ≡ length ks → of_all (numbers_of m) rs ≡ [] → of_all (purity_of m purpose.Insert []) rs ≡ [] → Each (JudgedClear m) (inserts_judged m own ks rs) → AreInserts m own ks rs
inserts_right m own [] [] same named pure judged = tt
inserts_right m own [] (r ∷ rs) same named pure judged = absurd (omega (arith, same))
inserts_right m own (k ∷ ks) [] same named pure judged = absurd (omega (arith, same))
inserts_right m own (k ∷ ks) (r ∷ rs) same named pure judged = (
  λ f is. value_rule m purpose.Insert (mode_of_field m k) f.mode own r inserts (ap mode_where is) (front_none (numbers_of m r) _ named) (front_none (purity_of m purpose.Insert [] r) _ pure) judged.0,
  inserts_right m own ks rs (omega (arith, same)) (back_none (numbers_of m r) _ named) (back_none (purity_of m purpose.Insert [] r) _ pure) judged.1,
)

-- what is known of a multi field
record MultiParts (m : Machine) (x : Multi) : Type 0 where
  subs : e306.no_subs m x.subs ≡ []
  insert_named : of_all (numbers_of m) x.insert ≡ []
  extract_named : numbers_of m x.extract ≡ []
  insert_pure : of_all (purity_of m purpose.Insert []) x.insert ≡ []
  extract_pure : purity_of m purpose.Extract x.subs x.extract ≡ []

multi_parts : (m : Machine) (x : Multi) → MultiClear m x → MultiParts m x
multi_parts m x y =
    let none : AreNone (of_all (cells_of m) x.insert ∷ cells_of m x.extract ∷ e306.no_subs m x.subs ∷ of_all (numbers_of m) x.insert ∷ numbers_of m x.extract ∷ e308.of_multi y.before y.spent x ∷ of_all (purity_of m purpose.Insert []) x.insert ∷ purity_of m purpose.Extract x.subs x.extract ∷ []) = all_none (of_all (cells_of m) x.insert) (cells_of m x.extract ∷ e306.no_subs m x.subs ∷ of_all (numbers_of m) x.insert ∷ numbers_of m x.extract ∷ e308.of_multi y.before y.spent x ∷ of_all (purity_of m purpose.Insert []) x.insert ∷ purity_of m purpose.Extract x.subs x.extract ∷ []) y.none in
    record {
      subs = none.1.1.0;
      insert_named = none.1.1.1.0;
      extract_named = none.1.1.1.1.0;
      insert_pure = none.1.1.1.1.1.1.0;
      extract_pure = none.1.1.1.1.1.1.1.0;
    }

pub sound_multi : (m : Machine) (x : Multi) → is_multi x ≡ true → MultiClear m x → multi_modes m x ≡ [] → SoundMulti m x
sound_multi m x formed clear modes =
    let parts = multi_parts m x clear in
    let rest : List Bool = (length x.insert == length x.subs) ∷ list_all is_formed x.insert ∷ is_formed x.extract ∷ [] in
    let tests : AreTrue (has_bits x.mode ∷ rest) = all_true (has_bits x.mode) rest formed in
    let same : length x.insert ≡ length x.subs = eqb-true (length x.insert) (length x.subs) tests.1.0 in
    let judged = judged_clear m (multi_judged m x) modes in
    let insertions = inserts_judged m x.mode x.subs x.insert in
    let extraction = judged_where purpose.Extract (Some x.mode) None (Some x.extract) in
    record {
      valued = valued x.mode tests.0;
      subs = subs_there m 0 x.subs parts.subs;
      insert = inserts_right m x.mode x.subs x.insert same parts.insert_named parts.insert_pure (each_front (JudgedClear m) insertions extraction judged);
      extract = fields_rule m x.subs x.mode None x.extract parts.extract_named parts.extract_pure (each_back (JudgedClear m) insertions extraction judged).0;
    }

-- what an operand names is there
source_there : (m : Machine) (s : Source) → e306.no_source m s ≡ [] → has_source m s ≡ true
source_there m (source.Field k) h = there m.fields k (not_true (nat_lt k (length m.fields)) _ h)
source_there m (source.Multi k) h = there m.multis k (not_true (nat_lt k (length m.multis)) _ h)
source_there m s h = refl

pub sound_operand : (m : Machine) (o : Operand) → OperandClear m o → SoundOperand m o
sound_operand m o x =
    let own : e306.of_operand m o ≡ [] = front_none (e306.of_operand m o) (e308.of_operand x.before o) x.none in
    record {
      hardware = there m.hardware o.hardware (not_true (nat_lt o.hardware (length m.hardware)) _ (front_none (e306.beyond (length m.hardware) 0 o.hardware) _ own));
      source = source_there m o.source (back_none (e306.beyond (length m.hardware) 0 o.hardware) _ own);
    }
