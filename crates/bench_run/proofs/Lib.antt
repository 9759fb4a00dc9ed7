mod TextLaws
mod TurnTexts
mod SessionTexts
