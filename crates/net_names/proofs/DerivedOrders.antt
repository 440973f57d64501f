-- The derived orders are the ones that specs/ writes out.
use Rattle.std.proofs.Common.{◌≡◌, ℕ, refl}
use mathlib.Core.Path.{fun_ext}
use Rattle.net_names.specs.declared.addresses.Family.{Family}
use Rattle.net_names.specs.declared.addresses.Family.TheVariants.{V4, V6}
use Rattle.std.specs.Ordering.{nat_cmp}
use Rattle.net_names.specs.Addresses.{AddrValue, addr_cmp, width}
use Rattle.net_names.specs.Prefixes.{PrefixValue, prefix_cmp}
use Rattle.net_names.specs.contracts.prefixes.PrefixOrd.TheImpl as prefix_impl
use Rattle.net_names.specs.contracts.addresses.AddrOrd.TheImpl as addr_impl
use Rattle.net_names.specs.contracts.addresses.FamilyOrd.TheImpl as family_impl

pub family_order : (f g : Family) → (family_impl.ghosts).cmp f g ≡ nat_cmp (width f) (width g)
family_order V4 V4 = refl
family_order V4 V6 = refl
family_order V6 V4 = refl
family_order V6 V6 = refl

prefix_at : (f g : Family) (a b l m : ℕ) → (prefix_impl.ghosts).cmp (record { family = f; addr = a; len = l }) (record { family = g; addr = b; len = m }) ≡ prefix_cmp (record { family = f; addr = a; len = l }) (record { family = g; addr = b; len = m })
prefix_at V4 V4 a b l m = refl
prefix_at V4 V6 a b l m = refl
prefix_at V6 V4 a b l m = refl
prefix_at V6 V6 a b l m = refl

pub prefix_order : (p q : PrefixValue) → (prefix_impl.ghosts).cmp p q ≡ prefix_cmp p q
prefix_order p q = prefix_at p.family q.family p.addr q.addr p.len q.len

addr_at : (f g : Family) (a b : ℕ) → (addr_impl.ghosts).cmp (record { family = f; bits = a }) (record { family = g; bits = b }) ≡ addr_cmp (record { family = f; bits = a }) (record { family = g; bits = b })
addr_at V4 V4 a b = refl
addr_at V4 V6 a b = refl
addr_at V6 V4 a b = refl
addr_at V6 V6 a b = refl

pub addr_order : (p q : AddrValue) → (addr_impl.ghosts).cmp p q ≡ addr_cmp p q
addr_order p q = addr_at p.family q.family p.bits q.bits

pub prefix_orders : (prefix_impl.ghosts).cmp ≡ prefix_cmp
prefix_orders = fun_ext (λ p. fun_ext (λ q. prefix_order p q))

pub addr_orders : (addr_impl.ghosts).cmp ≡ addr_cmp
addr_orders = fun_ext (λ p. fun_ext (λ q. addr_order p q))
