-- What a watch keeps stays where its columns do.
use Rattle.std.proofs.Common.{◌≡◌, ℕ, ◌≤◌, None, List, [], ◌∷◌, ◌++◌, refl, sym, ◌∙◌, subst, arith}
use Rattle.data_trace.specs.declared.places.PlaceHop.{PlaceHop}
use Rattle.data_trace.specs.declared.places.PlaceHop.TheVariants.{NoRoute}
use Rattle.data_trace.specs.declared.places.Mark.{Mark}
use Rattle.data_trace.specs.declared.places.Group.{Group}
use Rattle.data_trace.specs.declared.sums.Sums.{Sums}
use Rattle.data_trace.specs.declared.keeping.Lists.{Lists}
use Rattle.data_trace.specs.Keeping.{HasRoom, AreKept}
use Rattle.data_trace.specs.Sums.{total}
use Rattle.data_trace.specs.Counted.{AreCounted}
use Rattle.data_trace.proofs.Summing.{Test}
use Rattle.data_trace.proofs.Joining.{lists_equal}
use Rattle.data_trace.proofs.Extending.{lists_added}

-- with room for more places there is room for fewer
pub kept_less : (hops : List PlaceHop) (n m : ℕ) (l : Lists) → AreKept hops n l → m ≤ n → AreKept hops m l
kept_less hops n m l h less = record {
  lists = h.lists;
  room = record { first = omega (arith, h.room.first, less); before = omega (arith, h.room.before, less); after = omega (arith, h.room.after, less); queue = omega (arith, h.room.queue, less); path = omega (arith, h.room.path, less) };
}

module _ (hops hops' : List PlaceHop) (l l' : Lists) where
  -- the lists are those of the same next hops, with other room
  pub kept_same : (n n' : ℕ) → hops' ≡ hops → l'.first.items ≡ l.first.items → l'.before.items ≡ l.before.items → l'.after.items ≡ l.after.items → HasRoom n' l' → AreKept hops n l → AreKept hops' n' l'
  kept_same n n' h f b a room k = record { lists = lists_equal h refl f b a k.lists; room = room }

  -- a place comes to the end
  pub kept_added : (n : ℕ) → hops' ≡ hops ++ NoRoute ∷ [] → l'.first.items ≡ l.first.items ++ None ∷ [] → l'.before.items ≡ l.before.items ++ None ∷ [] → l'.after.items ≡ l.after.items ++ None ∷ [] → HasRoom n l' → AreKept hops n l → AreKept hops' n l'
  kept_added n h f b a room k = record { lists = lists_added hops hops' h l.first.items l'.first.items l.before.items l'.before.items l.after.items l'.after.items f b a k.lists; room = room }

-- the sums count the same places
pub counted_same : (sums sums' : Sums) (keys keys' : List ℕ) (marks marks' : List Mark) (groups groups' : List Group) → keys' ≡ keys → marks' ≡ marks → groups' ≡ groups → ((p : Test) → total p sums' ≡ total p sums) → AreCounted sums keys marks groups → AreCounted sums' keys' marks' groups'
counted_same sums sums' keys keys' marks marks' groups groups' k m g t h =
    subst (λ (ks : List ℕ). AreCounted sums' ks marks' groups') (sym k) (subst (λ (ms : List Mark). AreCounted sums' keys ms groups') (sym m)
    (subst (λ (gs : List Group). AreCounted sums' keys marks gs) (sym g) (record { marks_len = h.marks_len; groups_len = h.groups_len; below = h.below; each = λ p. t p ∙ h.each p })))
