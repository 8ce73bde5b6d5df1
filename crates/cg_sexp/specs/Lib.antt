-- What contracts of public functions cite stands in `cg_base`: the grammar, the faults of a text, what it reads as, how forms
-- are written. Here are the steps of proofs: a machine that reads byte by byte, and why it gives just what the grammar says.

-- the machine that private functions follow
pub mod Machine
pub mod Held

-- the laws between the grammar and the machine; `Laws` has what the proof of `read` cites
-- why what is printed reads as the form again; `Last` has what the proof of `print` cites
