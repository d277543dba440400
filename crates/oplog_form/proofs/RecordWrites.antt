-- Writing records one after the other, as a loop does.
use Rattle.std.proofs.Common.{◌≡◌, suc, List, [], ◌∷◌, ◌++◌, length, Option, None, Some, Ok, Err, refl, sym, ap, ◌∙◌, append_assoc, subst}
use Rattle.std.proofs.lemmas.List.{append-nil}
use Rattle.std.proofs.lemmas.List.Concat.{flat_map-cons}
use Rattle.std.proofs.lemmas.Grind.{flat_map-append}
use Rattle.std.specs.List.{flat_map}
use Rattle.merkle_nodes.specs.declared.node.Node.{Node}
use Rattle.compact_enc.specs.declared.encoder.Encoder.{Encoder}
use Rattle.compact_enc.specs.declared.encoder.Full.{Full}
use Rattle.compact_enc.specs.Written.{Writes}
use Rattle.compact_enc.proofs.Writing.{writes_stop, writes_then}
use Rattle.oplog_form.specs.Nodes.{record_spelling}
use Rattle.oplog_form.specs.Records.{first_of}

-- the records in front of those left are written
pub record Halfway (all left : List Node) (old new : Encoder) : Type 0 where
  pub front : List Node
  pub whole : all ≡ front ++ left
  pub writes : Writes {A = Unit {0}} (flat_map record_spelling front) old new (Ok tt)

-- a list again from its first node and the others
abbrev joined : Option (Node × List Node) → List Node
joined None = []
joined (Some x) = x.0 ∷ x.1

again : (left : List Node) → left ≡ joined (first_of left)
again [] = refl
again (node ∷ nodes) = refl

first_is : (left : List Node) (node : Node) (rest : List Node) → first_of left ≡ Some (node, rest) → left ≡ node ∷ rest
first_is left node rest is = again left ∙ ap joined is

-- the text of a front, of a node and of those behind it
split : (front : List Node) (node : Node) (rest : List Node) → flat_map record_spelling (front ++ node ∷ rest) ≡ flat_map record_spelling front ++ (record_spelling node ++ flat_map record_spelling rest)
split front node rest = flat_map-append record_spelling front (node ∷ rest) ∙ ap (λ l. flat_map record_spelling front ++ l) (flat_map-cons record_spelling node rest)

pub go_on : (all left : List Node) (node : Node) (rest : List Node) (old mid new : Encoder) → Halfway all left old mid → first_of left ≡ Some (node, rest)
    → Writes {A = Unit {0}} (record_spelling node) mid new (Ok tt) → Halfway all rest old new
go_on all left node rest old mid new half first one =
    let text : flat_map record_spelling (half.front ++ node ∷ []) ≡ flat_map record_spelling half.front ++ record_spelling node =
    split half.front node [] ∙ ap (λ l. flat_map record_spelling half.front ++ l) (append-nil (record_spelling node)) in
    record {
      front = half.front ++ node ∷ [];
      whole = half.whole ∙ ap (λ l. half.front ++ l) (first_is left node rest first) ∙ sym (append_assoc half.front (node ∷ []) rest);
      writes = subst (λ t. Writes {A = Unit {0}} t old new (Ok tt)) (sym text) (writes_then _ _ _ _ _ _ _ half.writes one);
    }

pub stop : (all left : List Node) (node : Node) (rest : List Node) (old mid new : Encoder) (full : Full) → Halfway all left old mid → first_of left ≡ Some (node, rest)
    → Writes {A = Unit {0}} (record_spelling node) mid new (Err full) → Writes {A = Unit {0}} (flat_map record_spelling all) old new (Err full)
stop all left node rest old mid new full half first one =
    let text : flat_map record_spelling all ≡ flat_map record_spelling half.front ++ (record_spelling node ++ flat_map record_spelling rest) =
    ap (flat_map record_spelling) (half.whole ∙ ap (λ l. half.front ++ l) (first_is left node rest first)) ∙ split half.front node rest in
    subst (λ t. Writes {A = Unit {0}} t old new (Err full)) (sym text) (writes_then _ _ _ _ _ _ _ half.writes (writes_stop _ _ _ _ _ one))

-- one fewer is left
pub one_less : (left : List Node) (node : Node) (rest : List Node) → first_of left ≡ Some (node, rest) → length left ≡ suc (length rest)
one_less left node rest first = ap length (first_is left node rest first)
