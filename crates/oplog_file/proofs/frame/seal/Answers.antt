use Rattle.std.proofs.Common.{◌∙◌, rules}
use Rattle.oplog_file.proofs.HeadLaws.{sealed_frame, sealed_behind}
use Rattle.oplog_file.proofs.frame.seal.Goals as goal

pub returns-clause-sealed : goal.returns-clause-sealed
returns-clause-sealed c =
    sealed_frame c.args.frame.now _ _ _ _ c.args.epoch c.args.number c.args.payload_len c.requires.within (c.copy_from_slice.ensures.after ∙ c.to_le_bytes.ensures) (c.copy_from_slice-2.ensures.after ∙ c.to_le_bytes-2.ensures) (search rules) (search rules)

pub returns-clause-behind : goal.returns-clause-behind
returns-clause-behind c =
    sealed_behind c.args.frame.now c.copy_from_slice.new.self c.copy_from_slice-2.new.self c.args.payload_len c.requires.within (search rules) (search rules) c.copy_from_slice-3.new.self c.copy_from_slice-4.new.self (search rules) (search rules)
