-- The line is written behind the page's text.
use native.Mathlib.Omega.{arith}
use Rattle.text.proofs.Lines.{size_most}
use Rattle.text.proofs.Behind.{paged}
use Rattle.text.proofs.Page.size_line.Goals as goal

pub invariant_of-self : goal.invariant_of-self
invariant_of-self g c = (paged _ _ _ _ _ _ _ c.size_line-self-inside.ensures c.self.view_is c.self.told c.self.invariant c.requires (size_most _ (omega arith) (omega arith) (omega arith))).inside

pub returns-clause-text : goal.returns-clause-text
returns-clause-text g c = (paged _ _ _ _ _ _ _ c.size_line-self-inside.ensures c.self.view_is c.self.told c.self.invariant c.requires (size_most _ (omega arith) (omega arith) (omega arith))).text_is

pub returns-clause-near : goal.returns-clause-near
returns-clause-near g c = (paged _ _ _ _ _ _ _ c.size_line-self-inside.ensures c.self.view_is c.self.told c.self.invariant c.requires (size_most _ (omega arith) (omega arith) (omega arith))).near
