-- Offers that are before another one.
use Rattle.std.specs.Prelude.{◌≡◌, ◌≢◌, ℕ, IsTrue, Option, Some}
use Rattle.policy_laws.specs.declared.policy.View.{View}
use Rattle.stability_laws.specs.declared.entry.Entry.{Entry}
use Rattle.stability_laws.specs.Offers.{Setting, Offer, offer}

-- an AS other than a makes b an offer which b's policy puts before the view (RFC 4271, section 9.1.2)
pub record HasRival (w : Setting) (f : ℕ → Option Entry) (a b : ℕ) (view : View) : Type 0 where
  pub rival : ℕ
  pub offer_made : Offer
  pub other : rival ≢ a
  pub made : offer w f rival b ≡ Some offer_made
  pub before : IsTrue ((w.policy b).before offer_made.view view)
