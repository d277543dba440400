use Rattle.std.proofs.Common.{◌++◌, sym, ap}
use Rattle.merkle_nodes.specs.Tree.{u64_bytes}
use Rattle.merkle_nodes.proofs.StandardFacts.{signed_name_hash}
use Rattle.merkle_nodes.proofs.roots.signable.Goals as goal

pub returns : goal.returns
returns c =
    let after_name = ap (λ name. name ++ c.args.root.now ++ u64_bytes c.args.length ++ u64_bytes c.args.fork) (sym signed_name_hash) in
    rw (
      c.copy_from_slice.ensures.after,
      c.as_slice.ensures.items,
      c.extend-4.ensures,
      c.extend-3.ensures,
      c.extend-2.ensures,
      c.extend.ensures,
      c.new-text.ensures,
      c.to_le_bytes.ensures,
      c.to_le_bytes-2.ensures,
    ) after_name
