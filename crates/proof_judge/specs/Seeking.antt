-- Where the block of a proof begins in the log with it in, by what a view gives, and whether it has the sought byte.
use Rattle.std.specs.Prelude.{◌≡◌, ℕ, ◌||◌, not, List, length, Option, IfSome}
use Rattle.merkle_nodes.specs.declared.node.Node.{Node}
use Rattle.proof_form.specs.Proofs.{Proof}
use Rattle.node_set.specs.declared.fault.Refusal.{Refusal}
use Rattle.node_set.specs.declared.fault.Refusal.TheVariants.{SeekWrong}
use Rattle.node_set.specs.Refuses.{refuse_if}
use Rattle.log_view.specs.Views.{Source}
use Rattle.log_view.specs.Overlays.{has_node}
use Rattle.log_view.specs.Walks.{BeginsAt}
use Rattle.proof_check.specs.Parts.{of_part}
use Rattle.proof_check.specs.Judge.{with_block, is_in}

-- the source with a proof's block in: of a number it gives a node of the way or one of its own
abbrev pub with_way : Proof → List Node → Source → Source
with_way p way s = record s { content = with_block p s.content; gives = λ number twig. has_node way number twig || s.gives number twig }

-- the sought byte isn't in a block that begins at this one
abbrev pub seek_refusal_at : Proof → ℕ → Option Refusal
seek_refusal_at p begin =
    of_part p.seek (λ byte. of_part p.block (λ b. refuse_if (not (is_in byte begin (length b.bytes))) (SeekWrong begin (length b.bytes))))

-- over every view: the block begins at a byte by what the view gives, and the refusal is that of this byte
pub record SeekMeets (s : Source) (p : Proof) (way : List Node) (refusal : Option Refusal) : Type 0 where
  pub begin : ℕ
  pub begins : IfSome p.seek (λ byte. IfSome p.block (λ b. BeginsAt (with_way p way s) b.index begin))
  pub refusal_is : refusal ≡ seek_refusal_at p begin
