use Rattle.std.proofs.Common.{inl, refl}
use Rattle.link_traits.proofs.mem_listen.MemListenListen.bind.Goals as goal

-- the call was planned to fail
pub returns-then-next-clause-fails : goal.returns-then-next-clause-fails
returns-then-next-clause-fails c = rw (← c.self.view_is) (λ _. inl (c.if-next.ensures.planned.0 refl), λ _. refl)
