use Rattle.mt_tokens.specs.Replacements.{map_entry}
use Rattle.mt_tokens.proofs.Puts.{put_three}
use Rattle.mt_tokens.proofs.replacing.Module.put_between.Goals as goal

pub returns : goal.returns
returns c = put_three c.args.out.now c.extend.new.self c.put_map_entry.new.out c.extend-2.new.self c.args.before.now (map_entry c.args.self.now.number) c.args.after.now c.in_ok-extend.ensures.ok c.in_ok-put_map_entry.ensures c.in_ok-extend-2.ensures.ok
