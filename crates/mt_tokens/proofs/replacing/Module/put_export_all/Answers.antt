use Rattle.std.specs.Prelude.{codes}
use Rattle.mt_tokens.specs.Replacements.{required}
use Rattle.mt_tokens.proofs.Puts.{put_three}
use Rattle.mt_tokens.proofs.replacing.Module.put_export_all.Goals as goal

pub returns : goal.returns
returns c = put_three c.args.out.now c.extend.new.self c.put_required.new.out c.extend-2.new.self (codes "__exportAll(exports, ") (required c.args.self.now.number) (codes ");") c.in_ok-extend.ensures.ok c.in_ok-put_required.ensures c.in_ok-extend-2.ensures.ok
