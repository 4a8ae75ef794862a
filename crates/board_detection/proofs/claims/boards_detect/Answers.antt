-- The claims, each a law of proofs/.
use Rattle.board_detection.proofs.BoardsDetect.{boards-detect-in-square, boards-detect-in-triangle, boards-detect-in-worst-case}
use Rattle.board_detection.proofs.FreshBegin.{fresh-boards-begin}
use Rattle.board_detection.proofs.claims.boards_detect.Goals as goal

pub returns-clause-in_square : goal.returns-clause-in_square
returns-clause-in_square c = boards-detect-in-square

pub returns-clause-in_triangle : goal.returns-clause-in_triangle
returns-clause-in_triangle c = boards-detect-in-triangle

pub returns-clause-in_worst_case : goal.returns-clause-in_worst_case
returns-clause-in_worst_case c = boards-detect-in-worst-case

pub returns-clause-fresh_boards_begin : goal.returns-clause-fresh_boards_begin
returns-clause-fresh_boards_begin c = fresh-boards-begin
