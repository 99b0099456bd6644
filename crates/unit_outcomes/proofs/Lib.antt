mod LinesSpelt
mod PartsSpelt
mod InRange
mod TokensSpelt
mod SameReadings
mod Outcomes
mod SameReads
