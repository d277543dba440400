use Rattle.std.proofs.Common.{◌≤◌, length, sym, subst}
use Rattle.wire_frames.specs.declared.limits.TheConstants.{MAX_FRAME_BYTES}
use Rattle.wire_messages.specs.Messages.{view}
use Rattle.wire_messages.proofs.Sizes.{in_frame}
use Rattle.wire_messages.proofs.write.put.Goals as goal

pub put-requires : goal.put-requires
put-requires c =
    subst (λ body. length body ≤ MAX_FRAME_BYTES) (sym c.spell-end.ensures.body) (in_frame (view c.args.message.now) c.requires.fits c.requires.frame)
