-- The words of this crate that the clauses of crates above use, to import from one place.
pub use Rattle.net_names.specs.Numbers.{IsDistinct, last_or, occurs}
pub use Rattle.net_names.specs.Links.{LinkMap, converse, link_map_code, pair_cmp}
pub use Rattle.net_names.specs.LinkLists.{AreLinks, entry_of, map_of}
pub use Rattle.net_names.specs.Dealing.{IsDealt, items_at}
pub use Rattle.net_names.specs.Addresses.{AddrValue, addr_cmp}
pub use Rattle.net_names.specs.Prefixes.{PrefixValue, announcement_cmp, prefix_cmp}
pub use Rattle.net_names.specs.Coverage.{covers, holds}
pub use Rattle.net_names.specs.Payloads.{VrpValue, vrp_at, vrp_code}
pub use Rattle.net_names.specs.Steps.{option_filter}
pub use Rattle.net_names.specs.Texts.{addr_of, after, asn_of, class_word, fields, numbers_text, numeral, prefix_of, rel_of, vrp_asn_of}
pub use Rattle.net_names.specs.Lines.{kept_from, said_on}
