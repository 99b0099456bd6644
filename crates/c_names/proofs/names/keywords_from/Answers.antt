use Rattle.std.proofs.Common.{◌==◌, refl, arith}
use Rattle.std.proofs.lemmas.Bool.{or_from, ne_eqb}
use Rattle.c_names.proofs.KeywordLemmas.{keywords_from-at, keywords_from-other}
use Rattle.c_names.proofs.names.keywords_from.Goals as goal

pub returns-in-97 : goal.returns-in-97
returns-in-97 c = keywords_from-at c.args.first 97 _ c.in-97.is refl

pub returns-in-98 : goal.returns-in-98
returns-in-98 c = keywords_from-at c.args.first 98 _ c.in-98.is refl

pub returns-in-99 : goal.returns-in-99
returns-in-99 c = keywords_from-at c.args.first 99 _ c.in-99.is refl

pub returns-in-100 : goal.returns-in-100
returns-in-100 c = keywords_from-at c.args.first 100 _ c.in-100.is refl

pub returns-in-101 : goal.returns-in-101
returns-in-101 c = keywords_from-at c.args.first 101 _ c.in-101.is refl

pub returns-in-102 : goal.returns-in-102
returns-in-102 c = keywords_from-at c.args.first 102 _ c.in-102.is refl

pub returns-in-103 : goal.returns-in-103
returns-in-103 c = keywords_from-at c.args.first 103 _ c.in-103.is refl

pub returns-in-105 : goal.returns-in-105
returns-in-105 c = keywords_from-at c.args.first 105 _ c.in-105.is refl

pub returns-in-108 : goal.returns-in-108
returns-in-108 c = keywords_from-at c.args.first 108 _ c.in-108.is refl

pub returns-in-114 : goal.returns-in-114
returns-in-114 c = keywords_from-at c.args.first 114 _ c.in-114.is refl

pub returns-in-115 : goal.returns-in-115
returns-in-115 c = keywords_from-at c.args.first 115 _ c.in-115.is refl

pub returns-in-116 : goal.returns-in-116
returns-in-116 c = keywords_from-at c.args.first 116 _ c.in-116.is refl

pub returns-in-117 : goal.returns-in-117
returns-in-117 c = keywords_from-at c.args.first 117 _ c.in-117.is refl

pub returns-in-118 : goal.returns-in-118
returns-in-118 c = keywords_from-at c.args.first 118 _ c.in-118.is refl

pub returns-in-119 : goal.returns-in-119
returns-in-119 c = keywords_from-at c.args.first 119 _ c.in-119.is refl

pub returns-in-95 : goal.returns-in-95
returns-in-95 c = keywords_from-at c.args.first 95 _ c.in-95.is refl

pub returns-in_default : goal.returns-in_default
returns-in_default c =
    let b = c.args.first in
    keywords_from-other b (or_from (97 == b) _ (ne_eqb 97 b (omega arith)) (or_from (98 == b) _ (ne_eqb 98 b (omega arith)) (or_from (99 == b) _ (ne_eqb 99 b (omega arith)) (or_from (100 == b) _ (ne_eqb 100 b (omega arith)) (or_from (101 == b) _ (ne_eqb 101 b (omega arith)) (or_from (102 == b) _ (ne_eqb 102 b (omega arith)) (or_from (103 == b) _ (ne_eqb 103 b (omega arith)) (or_from (105 == b) _ (ne_eqb 105 b (omega arith)) (or_from (108 == b) _ (ne_eqb 108 b (omega arith)) (or_from (114 == b) _ (ne_eqb 114 b (omega arith)) (or_from (115 == b) _ (ne_eqb 115 b (omega arith)) (or_from (116 == b) _ (ne_eqb 116 b (omega arith)) (or_from (117 == b) _ (ne_eqb 117 b (omega arith)) (or_from (118 == b) _ (ne_eqb 118 b (omega arith)) (or_from (119 == b) _ (ne_eqb 119 b (omega arith)) (or_from (95 == b) _ (ne_eqb 95 b (omega arith)) (refl)))))))))))))))))
