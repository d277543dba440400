-- Refusals in their order: the first one that holds.
use Rattle.std.specs.Prelude.{Bool, true, false, Option, Some, None}

-- the first, or else the second
abbrev pub or_else : {A : Type 0} → Option A → Option A → Option A
or_else (Some first) second = Some first
or_else None second = second

-- this refusal, where it holds
abbrev pub refuse_if : {A : Type 0} → Bool → A → Option A
refuse_if true refusal = Some refusal
refuse_if false refusal = None
