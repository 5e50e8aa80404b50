use Rattle.std.proofs.Common.{ap, Some, ◌∙◌, rules}
use Rattle.mt_io.proofs.KeepsOthers.{keeps_all, on_err}
use Rattle.mt_io.proofs.map_folder.MapFolderFolder.write.Goals as goal

pub returns-in_err-begin-clause-replaces : goal.returns-in_err-begin-clause-replaces
returns-in_err-begin-clause-replaces c = record {
  written = search rules;
  others = on_err _ (keeps_all _ _ _ (ap (λ f. Some f.files) c.self.view_is));
  cause = search rules;
  later = search rules;
  apart = search rules;
}

pub returns-in_err-copy_in-clause-replaces : goal.returns-in_err-copy_in-clause-replaces
returns-in_err-copy_in-clause-replaces c = record {
  written = search rules;
  others = on_err _ (keeps_all _ _ _ (ap Some (c.in_err-copy_in.ensures.err ∙ ap (λ f. f.files) c.self.view_is)));
  cause = search rules;
  later = search rules;
  apart = search rules;
}
