-- The line is written behind the page's text.
use Rattle.text.proofs.Lines.{bad_size_most}
use Rattle.text.proofs.Behind.{paged}
use Rattle.text.proofs.Page.bad_size.Goals as goal

pub invariant_of-self : goal.invariant_of-self
invariant_of-self g c = (paged _ _ _ _ _ _ _ c.bad_size-self-inside.ensures c.self.view_is c.self.told c.self.invariant c.requires bad_size_most).inside

pub returns-clause-text : goal.returns-clause-text
returns-clause-text g c = (paged _ _ _ _ _ _ _ c.bad_size-self-inside.ensures c.self.view_is c.self.told c.self.invariant c.requires bad_size_most).text_is

pub returns-clause-near : goal.returns-clause-near
returns-clause-near g c = (paged _ _ _ _ _ _ _ c.bad_size-self-inside.ensures c.self.view_is c.self.told c.self.invariant c.requires bad_size_most).near
