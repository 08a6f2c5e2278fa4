mod StepsKeepRule
