use Rattle.std.proofs.Common.{◌∙◌}
use Rattle.cg_tree.specs.Finding.{leaf_for}
use Rattle.cg_tree.proofs.Decoding.{tight_decodes}
use Rattle.cg_tree.proofs.Finds.{found_there, ticked_both, few_bits}
use Rattle.cg_tree.proofs.Trying.{few_tried}
use Rattle.cg_tree.proofs.Whole.{are_bytes}
use Rattle.cg_tree.proofs.tree.Tree.find.Goals as goal

pub returns-clause-first : goal.returns-clause-first
returns-clause-first c = found_there c.args.self.now c.args.machine.now c.args.bytes.now _ _ _ c.first_match.ensures.first c.reach-candidates.ensures.reached c.front_of.ensures

pub returns-clause-decoded : goal.returns-clause-decoded
returns-clause-decoded c tight =
    found_there c.args.self.now c.args.machine.now c.args.bytes.now _ _ _ c.first_match.ensures.first c.reach-candidates.ensures.reached c.front_of.ensures
    ∙ tight_decodes c.args.self.now c.args.machine.now c.args.bytes.now c.requires.sound (are_bytes c.args.bytes.now c.type_inv.bytes) tight

pub returns-clause-ticked : goal.returns-clause-ticked
returns-clause-ticked c = ticked_both c.args.self.now c.args.machine.now c.args.bytes.now _ _ _ _ _ c.reach-candidates.ensures.ticked c.first_match.ensures.ticked c.reach-candidates.ensures.reached c.front_of.ensures

pub returns-clause-bits : goal.returns-clause-bits
returns-clause-bits c = few_bits c.args.self.now c.args.bytes.now _ c.reach-candidates.ensures.low c.args.self.now.low c.front_of.ensures

pub returns-clause-candidates : goal.returns-clause-candidates
returns-clause-candidates c = few_tried c.args.machine.now c.args.bytes.now (leaf_for c.args.self.now c.args.bytes.now)
