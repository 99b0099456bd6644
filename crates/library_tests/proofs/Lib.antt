mod FormulaLaws
