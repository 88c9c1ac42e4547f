mod FirstEquations
mod Numbered
mod RelatedParts
mod ReasonExamples
mod ToldGoals
mod Tried
