-- Documents whose values are of their types (own format).
use Rattle.std.specs.Prelude.{ℕ, List}
use Rattle.scenario_text.specs.declared.documents.AnnouncementText.{AnnouncementText}
use Rattle.scenario_text.specs.declared.documents.PolicyText.{PolicyText}

-- a document is four lists: announcements and policies with their texts and numbers, lists of numbers, and texts (own format)
pub record DocumentValue : Type 0 where
  pub announcements : List AnnouncementText
  pub policies : List PolicyText
  pub leaks : List (List ℕ)
  pub watch : List (List ℕ)
