use Rattle.std.proofs.Common.{◌≡◌, ℕ, Bool, get_or, ◌∙◌, sym, ap, ◌/◌, ◌%◌, List}
use Rattle.bit_field.specs.Places.{has}
use Rattle.bit_field.specs.Pages.{is_set, page_of}
use Rattle.bit_field.proofs.Bytes.{is_set-page_of}
use Rattle.bit_field.proofs.Views.{stand}
use Rattle.bit_field.proofs.bits.Bits.page.Goals as goal

written : (c : goal.After-put_page) → c.put_page.new.out ≡ page_of (has c.args.self.now) c.args.number
written c =
    let stands = stand _ _ _ _ c.self.invariant c.self.view_is c.deref.ensures.value in
    c.put_page.ensures ∙ ap (λ (bits : ℕ → Bool). page_of bits c.args.number) (sym stands.same)

pub returns-clause-page : goal.returns-clause-page
returns-clause-page c = written c

pub returns-clause-places : goal.returns-clause-places
returns-clause-places c place lt =
    ap (λ (bytes : List ℕ). is_set (get_or bytes (place / 8) 0) (place % 8)) (written c) ∙ is_set-page_of (has c.args.self.now) c.args.number place lt
