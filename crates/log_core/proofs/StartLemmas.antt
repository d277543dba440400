-- A log in memory begins with the content that was never changed.
use Rattle.std.proofs.Common.{◌≡◌, ℕ, Bool, true, false, List, [], length, replicate, None, refl, sym, ap, subst, ◌∙◌, arith, inl, inr}
use Rattle.std.proofs.lemmas.Bool.{cases_Bool}
use mathlib.Core.Path.{fun_ext}
use Rattle.flat_tree.specs.Roots.{full_roots_of, roots_below}
use Rattle.bit_field.specs.Places.{has}
use Rattle.merkle_nodes.specs.Roots.{root_hash_of}
use Rattle.node_set.specs.Contents.{Content, Blocks, Values, start, roots, roots_at}
use Rattle.node_set.specs.Closure.{in_closure}
use Rattle.node_set.specs.Nodes.{values_of}
use Rattle.node_set.specs.Whole.{IsSound, KeepsLimits, IsWhole}
use Rattle.node_set.proofs.StoredTest.{past_closure}
use Rattle.node_set.specs.Tables.{shown}
use Rattle.log_core.specs.Memory.{Stored, IsKept}

-- the content that was never changed is whole
pub start_whole : (accepts : List ℕ → List ℕ → Bool) → IsWhole accepts start
unfolding full_roots_of roots_below
start_whole accepts = record {
  sound = record {
    blocks = record { below = λ index bytes there. cc; size = λ index bytes there. cc };
    closed = λ depth offset. sym (past_closure 0 (λ index. false) depth offset (omega arith));
    pairs = λ depth offset left right at_left at_right. cc;
    leaves = λ index bytes there. cc;
    fit = λ depth offset twig there. cc;
  };
  limits = record { blocks = omega arith; fork = omega arith; bytes = omega arith; signature = refl };
  head = inr (record { fork = refl; empty = refl; unsigned = refl });
}

-- nothing is there, under an unsigned head
pub record IsEmpty (s : Stored) : Type 0 where
  pub fork : s.parts.head.fork ≡ 0
  pub none : s.parts.head.length ≡ 0
  pub signature : s.parts.head.signature ≡ replicate 64 0
  pub held : s.parts.held ≡ []
  pub nodes : (depth offset : ℕ) → values_of s.parts.nodes depth offset ≡ None
  pub blocks : s.parts.blocks ≡ []
  pub roots : s.roots ≡ []
  pub root : s.root ≡ root_hash_of s.roots

-- such parts show that content
shows_start : (s : Stored) → IsEmpty s → shown s.parts ≡ start
shows_start s empty =
    ap (λ (f : ℕ). record m { fork = f }) empty.fork
    ∙ ap (λ (n : ℕ). record m { fork = 0; length = n }) empty.none
    ∙ ap (λ (text : List ℕ). record m { fork = 0; length = 0; signature = text }) empty.signature
    ∙ ap (λ (block : Blocks). record start { block = block; node = m.node }) (fun_ext (λ index. rw empty.held refl))
    ∙ ap (λ (node : Values). record start { node = node }) (fun_ext (λ depth. fun_ext (λ offset. no_node depth offset)))
  where
    m : Content
    m = shown s.parts

    no_node : (depth offset : ℕ) → m.node depth offset ≡ None
    no_node depth offset = elim (cases_Bool (in_closure s.parts.head.length (has s.parts.held) depth offset)) [
      | inl is ↦ rw is (empty.nodes depth offset)
      | inr not ↦ rw not refl
    ]

pub empty_kept : (s : Stored) → IsEmpty s → IsKept s
unfolding full_roots_of roots_below
empty_kept s empty =
    let whole = start_whole (λ text signature. true) in
    let is_start = sym (shows_start s empty) in
    let no_roots : roots (shown s.parts) ≡ [] = ap (roots_at (shown s.parts).node) empty.none in
    record {
      places = omega (arith, empty.none);
      spare = λ index there. let clash : false ≡ true = sym (ap (λ (held : List Bool). has held index) empty.held) ∙ there in cc;
      blocks = ap length empty.blocks ∙ sym empty.none;
      root_nodes = empty.roots ∙ sym no_roots;
      root_is = empty.root;
      sound = subst IsSound is_start whole.sound;
      limits = subst KeepsLimits is_start whole.limits;
    }
