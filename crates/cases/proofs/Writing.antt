-- What a sink was asked to take.
use Rattle.std.proofs.Common.{◌⊎◌, inl, inr, Result, Ok, Err, OnOk, OnErr}

-- it took all, or it failed and took a front
pub all_or_front : {X E A B C : Type 0} (r : Result X E) → OnOk r A → OnErr r B → C → A ⊎ (B × C)
all_or_front (Ok x) a b c = inl a
all_or_front (Err e) a b c = inr (b, c)
