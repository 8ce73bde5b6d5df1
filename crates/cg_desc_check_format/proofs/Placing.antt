-- A field that passes the test has its place.
use Rattle.std.proofs.Common.{◌≡◌, true, arith}
use Rattle.std.proofs.lemmas.Bool.Decides.{nat_tests}
use Rattle.cg_model.specs.Covers.{IsPlaced}
use Rattle.cg_model_faults.specs.E310.{is_placed}
use Rattle.cg_model.specs.declared.field.Field.{Field}

pub placed : (f : Field) → is_placed f ≡ true → IsPlaced f
placed f h = record {
  bytes = grind (arith, nat_tests, h);
  offset = grind (arith, nat_tests, h);
  some = grind (arith, nat_tests, h);
  few = grind (arith, nat_tests, h);
  inside = grind (arith, nat_tests, h);
  own = grind (arith, nat_tests, h);
  within = grind (arith, nat_tests, h);
}
