-- One more token.
use Rattle.std.proofs.Common.{◌∙◌, ap}
use Rattle.mt_tokens.specs.Brackets.{closed_by, opened_by}
use Rattle.mt_tokens.proofs.Openings.{stands_read}
use Rattle.mt_tokens.proofs.scanner.Scanner.read_seen.Goals as goal

pub returns-clause-ok : goal.returns-clause-ok
returns-clause-ok c = λ back s.
    let last = c.in_default.ensures.last ∙ c.in-Ok.ensures.last ∙ s.last in
    let earlier = c.in-Ok.ensures.earlier ∙ s.earlier in
    let opened = c.opened_byte-opened.ensures ∙ ap (opened_by c.args.token.kind) c.byte_at-first.ensures.byte in
    let closed = c.closed_byte-closed.ensures ∙ ap (closed_by c.args.token.kind) c.byte_at-first.ensures.byte in
    stands_read c.args.bytes.now c.args.token back c.args.self.now.openers c.close.new.self.openers c.open.new.self.openers c.open.new.self.last c.close.new.self.earlier c.opened_byte-opened.result c.closed_byte-closed.result c.in-Ok.inner c.is_operand_after_token-self.result s.openers last earlier opened closed (c.in-Ok.ensures.ok c.args.bytes.now) (rw c.in_default.ensures.last c.in_default.ensures.ok) c.is_operand_after_token-self.ensures
