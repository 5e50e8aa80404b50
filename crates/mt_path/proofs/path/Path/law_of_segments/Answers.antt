use Rattle.mt_path.proofs.Folders.{text_of_segments}
use Rattle.mt_path.proofs.Segments.{path_short, segments_of_text}
use Rattle.mt_path.proofs.Paths.{segments_all, text_is_path}
use Rattle.mt_path.proofs.path.Path.law_of_segments.Goals as goal

pub returns-clause-list : goal.returns-clause-list
returns-clause-list c = segments_of_text

pub returns-clause-text : goal.returns-clause-text
returns-clause-text c = text_of_segments

pub returns-clause-segments : goal.returns-clause-segments
returns-clause-segments c = segments_all

pub returns-clause-path : goal.returns-clause-path
returns-clause-path c = text_is_path

pub returns-clause-short : goal.returns-clause-short
returns-clause-short c = path_short
